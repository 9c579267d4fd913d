-- Errors and refusals in JSON, and the outcome of a call.
use Rattle.std.specs.Prelude.{◌≡◌, ℕ, List, string_bytes, ⊤}
use Rattle.serde_json.specs.Written.{compact_text}
use Rattle.base_language.specs.declared.grammar.Rule.{Rule}
use Rattle.base_language.specs.declared.runtime.errors.Error.{Error}
use Rattle.base_language.specs.declared.runtime.faults.Fault as code
use Rattle.base_language.specs.declared.runtime.faults.Fault.TheVariants as fault_is
use Rattle.format_json.specs.Errors.{errors_data}
use Rattle.format_json.specs.Refusals.{refusal_data}
use Rattle.format_json.specs.declared.refusal.RefusalLocation.{RefusalLocation}
use Rattle.format_json.specs.declared.refusal.RefusalReason.{RefusalReason}
use Rattle.front_syntax.specs.ExpectedRules.{AreExpected, ExpectsNothing}
use Rattle.pest_meta_c.specs.declared.outcome.CallError as why
use Rattle.pest_meta_c.specs.declared.outcome.CallError.TheVariants as why_is
use Rattle.pest_meta_c.specs.declared.outcome.NumbersError.{NumbersError}
use Rattle.pest_meta_c.specs.declared.outcome.NumbersError.TheVariants as no_numbers

-- the bytes are these errors of a text in JSON, with the expected rules if the rule does not match
pub record ReportsErrors (rule : Rule) (text : List ℕ) (errors : List (Error Rule)) (json : List ℕ)
    : Type 0 where
  pub expected : List Rule
  pub nothing : ExpectsNothing rule text expected
  pub furthest : AreExpected rule text expected
  pub written : json ≡ compact_text (errors_data expected errors)

-- an allocation failed, or the bytes of the refusal are such
abbrev pub RefusesWith : (List ℕ → Type 0) → why.CallError → Type 0
RefusesWith P why_is.Memory = ⊤
RefusesWith P (why_is.Refused json) = P (string_bytes json)

-- the refusal for a fault: for an allocation failure the same, for errors their JSON, unless an allocation
-- fails
abbrev pub IsFaultRefusal : Rule → List ℕ → code.Fault → why.CallError → Type 0
IsFaultRefusal rule text (fault_is.Memory e) told = told ≡ why_is.Memory
IsFaultRefusal rule text (fault_is.Grammar errors) told =
    RefusesWith (ReportsErrors rule text errors.items) told

-- a refusal in JSON, unless an allocation fails
abbrev pub IsRefusalOf : RefusalLocation → RefusalReason → why.CallError → Type 0
IsRefusalOf place why told = RefusesWith (λ json. json ≡ compact_text (refusal_data place why)) told

-- an allocation failed, or there is such a refusal
abbrev pub RefusesNumbers : Type 0 → NumbersError → Type 0
RefusesNumbers Refusal no_numbers.Memory = ⊤
RefusesNumbers Refusal no_numbers.Refused = Refusal
