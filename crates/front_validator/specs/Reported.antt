-- The validator's answer to rules.
use Rattle.std.specs.Prelude.{List}
use Rattle.base_language.specs.Pieces.Saying.{AreErrorsFor}
use Rattle.base_language.specs.declared.grammar.Rule.{Rule}
use Rattle.base_language.specs.declared.runtime.errors.Error.{Error}
use Rattle.front_spanned.specs.Spanned.{Span, SpannedRule}
use Rattle.front_validator.specs.Findings.{Finding, AreAllFound}

-- the errors report all findings in the rules, sorted by span, where these repetitions are known to be
-- endless
pub record AreReported (rules : List SpannedRule) (endless : List Span)
    (errors : List (Error Rule)) : Type 0 where
  pub findings : List Finding
  pub complete : AreAllFound rules endless findings
  pub told : AreErrorsFor findings errors
