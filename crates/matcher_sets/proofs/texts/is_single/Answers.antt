use Rattle.std.proofs.Common.{ap, length, ◌==◌}
use Rattle.matcher_program.proofs.Compiling.{one_character}
use Rattle.matcher_sets.proofs.texts.is_single.Goals as goal

pub returns-in-Some : goal.returns-in-Some
returns-in-Some c = λ h. ap (λ t. length t == 1) (one_character _ _ _ _ _ _ c.utf8.text c.chars-characters.ensures.rest c.in-Some.ensures.steps.0 c.as_str.ensures c.is_empty.ensures h)
