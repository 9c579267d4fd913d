use Rattle.std.proofs.Common.{◌∙◌, ap, sym, chars}
use Rattle.base_language.specs.Language.Builtins.{builtin_of}
use Rattle.lint_warnings.specs.Tokens.{is_set}
use Rattle.lint_warnings.proofs.Sets.{listed_set, other_set}
use Rattle.lint_warnings.proofs.tokens.is_set_name.Goals as goal

pub returns-in-Some : goal.returns-in-Some
returns-in-Some c = listed_set c.in-Some.builtin _ _ (ap chars (sym c.as_str-text.ensures.value) ∙ c.in-Some.ensures.named) c.is_set.ensures

pub returns-in-None : goal.returns-in-None
returns-in-None c =
    c.is_builtin.ensures.named ∙ (other_set _ c.in-None.ensures.unnamed ∙ ap (λ t. is_set (builtin_of (chars t))) c.as_str-text.ensures.value)
