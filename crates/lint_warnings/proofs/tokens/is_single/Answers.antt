use Rattle.lint_warnings.proofs.Sets.{single_if_none_left}
use Rattle.lint_warnings.proofs.tokens.is_single.Goals as goal

pub returns-in-Some : goal.returns-in-Some
returns-in-Some c =
    single_if_none_left _ _ _ _ _ _ c.utf8.text c.chars-characters.ensures.rest c.in-Some.ensures.steps.0 c.as_str.ensures c.as_str.utf8 c.is_empty.ensures
