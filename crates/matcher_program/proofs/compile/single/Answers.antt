use Rattle.matcher_program.proofs.Compiling.{one_character}
use Rattle.matcher_program.proofs.Refusing.{many_characters}
use Rattle.matcher_program.proofs.compile.single.Goals as goal

pub returns-then-is_empty-clause-some : goal.returns-then-is_empty-clause-some
returns-then-is_empty-clause-some c = one_character _ _ _ _ _ _ c.utf8.text c.chars-characters.ensures.rest c.in_ok-c.ensures.steps.0 c.as_str.ensures c.is_empty.ensures c.if-is_empty.true

pub returns-else-is_empty-clause-none : goal.returns-else-is_empty-clause-none
returns-else-is_empty-clause-none c =
    many_characters _ _ _ _ _ _ c.utf8.text c.chars-characters.ensures.rest c.in_ok-c.ensures.steps.0 c.as_str.ensures c.as_str.utf8 c.is_empty.ensures c.if-is_empty.false
