use Rattle.pest_meta.proofs.Promised.{answers_bounds, answers_known}
use Rattle.pest_meta.proofs.laws.answers_can_be_run.Goals as goal

pub returns : goal.returns
returns c = record {
  known_names = λ text builtins answer utf8 a. answers_known text utf8 builtins answer a;
  character_bounds = λ text builtins answer utf8 a. answers_bounds text utf8 builtins answer a;
}
