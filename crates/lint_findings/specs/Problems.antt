-- The codes of what can be wrong with a grammar.
use Rattle.std.specs.Prelude.{ℕ, List, if◌then◌else◌}
use Rattle.front_names.specs.declared.messages.NameProblem.{NameProblem}
use Rattle.front_names.specs.declared.messages.NameProblem.TheVariants as name_is
use Rattle.front_reader.specs.declared.rules.flaws.Cause.{Cause}
use Rattle.front_reader.specs.declared.rules.flaws.Cause.TheVariants as cause_is
use Rattle.front_validator.specs.declared.problems.RuleProblem.{RuleProblem}
use Rattle.front_validator.specs.declared.problems.RuleProblem.TheVariants as rule_is
use Rattle.lint_findings.specs.declared.codes.Code.{Code}
use Rattle.lint_findings.specs.declared.codes.Code.TheVariants as code
use Rattle.lint_hints.specs.Properties.{is_pest_property}

-- of a name
abbrev pub name_code : NameProblem → List ℕ → Code
name_code name_is.RustKeyword name = code.ReservedName
name_code name_is.PestKeyword name = code.ReservedName
name_code name_is.AlreadyDefined name = code.DuplicateRule
name_code name_is.Undefined name = if is_pest_property name then code.MissingProperty else code.UndefinedRule

-- of a flaw
abbrev pub flaw_code : Cause → Code
flaw_code cause_is.NoScalarValue = code.EscapeValue
flaw_code cause_is.PastI32 = code.NumberRange
flaw_code cause_is.PastU32 = code.NumberRange
flaw_code cause_is.ZeroTimes = code.ZeroRepetition

-- of a rule
abbrev pub rule_code : RuleProblem → Code
rule_code (rule_is.CannotFail body) = code.EndlessRepetition
rule_code (rule_is.NonProgressing body) = code.EndlessRepetition
rule_code rule_is.UnreachableChoices = code.UnreachableChoice
rule_code (rule_is.LeftRecursion names) = code.LeftRecursion
rule_code rule_is.TagOnSilentRule = code.TagWithoutToken
rule_code rule_is.TagOnBuiltin = code.TagWithoutToken
