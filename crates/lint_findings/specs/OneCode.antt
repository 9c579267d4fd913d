-- The messages of errors, each of which has one code.
use Rattle.std.specs.Prelude.{◌≡◌, ℕ, List}
use Rattle.front_names.specs.Messages.{about}
use Rattle.front_names.specs.declared.messages.NameProblem.{NameProblem}
use Rattle.front_reader.specs.Refusals.{cause_message}
use Rattle.front_reader.specs.Views.{cause_of}
use Rattle.front_reader.specs.declared.rules.flaws.Cause.{Cause}
use Rattle.front_validator.specs.Problems.{message_of}
use Rattle.front_validator.specs.declared.problems.RuleProblem.{RuleProblem}
use Rattle.lint_findings.specs.Problems.{flaw_code, name_code, rule_code}
use Rattle.lint_findings.specs.declared.codes.Code.{Code}

-- the message is about a name, of a flaw, or about a piece of a rule, and has the code of that
pub data IsCoded (message : List ℕ) (c : Code) : Type 0 where
  of_name : (problem : NameProblem) (name : List ℕ) → message ≡ about problem name
      → c ≡ name_code problem name → IsCoded message c
  of_flaw : (cause : Cause) → message ≡ cause_message (cause_of cause) → c ≡ flaw_code cause
      → IsCoded message c
  of_rule : (problem : RuleProblem) (written : List ℕ) → message ≡ message_of problem written
      → c ≡ rule_code problem → IsCoded message c

abbrev pub HasOneCode : Type 0
HasOneCode = (message : List ℕ) (c d : Code) → IsCoded message c → IsCoded message d → c ≡ d
