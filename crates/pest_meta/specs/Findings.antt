-- Findings in rules, with the reports of the stack pass.
use Rattle.std.specs.Prelude.{List}
use Rattle.base_language.specs.declared.grammar.Rule.{Rule}
use Rattle.base_language.specs.declared.runtime.errors.Error.{Error}
use Rattle.front_spanned.specs.Spanned.{Span, SpannedRule}
use Rattle.front_stack_loops.specs.Certain.{AreReports}
use Rattle.front_validator.specs.Findings.{AreAllFound, Finding}
use Rattle.front_validator.specs.Reported.{AreReported}

-- these are all findings in the rules, ordered by position; the repetitions that the stack pass reports are
-- among them, and there are no others that are known to be endless
pub record AreFindings (rules : List SpannedRule) (found : List Finding) : Type 0 where
  pub endless : List Span
  pub reports : AreReports rules endless
  pub complete : AreAllFound rules endless found

-- the errors are those of the rules, ordered by position; the repetitions that the stack pass reports are
-- among them, and there are no others that are known to be endless
pub record AreErrorsOfFindings (rules : List SpannedRule) (errors : List (Error Rule)) : Type 0 where
  pub endless : List Span
  pub reports : AreReports rules endless
  pub tell : AreReported rules endless errors
