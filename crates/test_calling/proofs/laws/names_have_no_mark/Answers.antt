use Rattle.test_calling.proofs.Unmarked.{answer_unmarked, spelled_unmarked, written_unmarked}
use Rattle.test_calling.proofs.laws.names_have_no_mark.Goals as goal

pub returns : goal.returns
returns c = record {
  spelled = λ text rules utf8 s. spelled_unmarked text utf8 rules s;
  written = λ text rules utf8 w. written_unmarked text utf8 rules w;
  answered = λ text builtins answer utf8 a. answer_unmarked text utf8 builtins answer a;
}
