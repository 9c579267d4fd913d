-- The refusals of the calls, as bytes of JSON.
use Rattle.std.specs.Prelude.{◌≡◌, ◌⊎◌, ℕ, List}
use Rattle.serde_json.specs.Written.{compact_text}
use Rattle.base_language.specs.Language.State.{Trees}
use Rattle.base_language.specs.Pieces.MetaRules.{name_of}
use Rattle.base_language.specs.declared.grammar.Rule.{Rule}
use Rattle.base_language.specs.declared.grammar.Rule.TheVariants as rule_is
use Rattle.base_language.specs.declared.runtime.errors.Error.{Error}
use Rattle.format_json.specs.Refusals.{IsRefusedAsOptimized, IsRefusedAsRules, refusal_data}
use Rattle.format_json.specs.RuleNames.{IsOfNoRule}
use Rattle.format_json.specs.declared.refusal.RefusalLocation.{RefusalLocation}
use Rattle.format_json.specs.declared.refusal.RefusalLocation.TheVariants as place_is
use Rattle.format_json.specs.declared.refusal.Refusal.{Refusal}
use Rattle.format_json.specs.declared.refusal.Refusal.TheVariants as refusal_is
use Rattle.format_json.specs.declared.refusal.RefusalReason.{RefusalReason}
use Rattle.format_json.specs.declared.refusal.RefusalReason.TheVariants as why_is
use Rattle.front_syntax.specs.Parses as parsed
use Rattle.pest_meta.specs.Spelling.{AreFlawed, HasTrees, HaveFindings, IsMisnamed, IsNoGrammar, IsRefusedWith}
use Rattle.pest_meta_c.specs.Outcomes.{ReportsErrors}

-- the bytes are errors of a grammar's text with this property
pub record ReportsSuch (text : List ℕ) (Such : List (Error Rule) → Type 0) (json : List ℕ) : Type 0 where
  pub errors : List (Error Rule)
  pub such : Such errors
  pub told : ReportsErrors rule_is.grammar_rules text errors json

-- the text is no grammar, or its trees are refused with these errors
abbrev pub OfTrees : (Trees → List (Error Rule) → Type 0) → List ℕ → List (Error Rule) → Type 0
OfTrees Refused text errors =
    IsNoGrammar text errors ⊎ ((trees : Trees) × HasTrees text trees × Refused trees errors)

-- no rule has the name, and the bytes report that
pub record IsUnknown (name json : List ℕ) : Type 0 where
  pub none : IsOfNoRule name
  pub written : json ≡ compact_text (refusal_data place_is.Whole why_is.UnknownRule)

-- the rule of that name does not match at the start of the text, and the bytes are the syntax error
pub record IsNoMatch (text name json : List ℕ) : Type 0 where
  pub rule : Rule
  pub named : name_of rule ≡ name
  pub errors : List (Error Rule)
  pub refused : parsed.IsRefused rule text errors
  pub told : ReportsErrors rule text errors json

-- the rule does not match at the start of the text
abbrev pub DoesNotMatch : Rule → List ℕ → Type 0
DoesNotMatch rule text = (errors : List (Error Rule)) × parsed.IsRefused rule text errors

-- why there are no tokens as numbers: no rule has the name, or the rule does not match
abbrev pub HasNoMatch : List ℕ → List ℕ → Type 0
HasNoMatch text name = IsOfNoRule name ⊎ ((rule : Rule) × (name_of rule ≡ name) × DoesNotMatch rule text)

-- why there are no tokens
abbrev pub HasNoTokens : List ℕ → List ℕ → List ℕ → Type 0
HasNoTokens text name json = IsUnknown name json ⊎ IsNoMatch text name json

-- why there are no names: the text is no grammar, or its names have errors
abbrev pub HasNoNames : List ℕ → List ℕ → Type 0
HasNoNames text json = ReportsSuch text (OfTrees (IsMisnamed text) text) json

-- why there are no rules with spans: the text is no grammar, or its trees have a flaw
abbrev pub HasNoNodes : List ℕ → List ℕ → Type 0
HasNoNodes text json = ReportsSuch text (OfTrees (AreFlawed text) text) json

-- why there are no rules: the text is no grammar, or its trees have a flaw, or its rules have errors
abbrev pub HasNoRules : List ℕ → List ℕ → Type 0
HasNoRules text json = ReportsSuch text
    (OfTrees (λ trees errors. AreFlawed text trees errors ⊎ HaveFindings text trees errors) text) json

-- why there is no whole answer
abbrev pub IsRefused : List ℕ → List ℕ → Type 0
IsRefused text json = ReportsSuch text (IsRefusedWith text) json

-- the bytes are a reason to refuse the text, and its location
abbrev pub IsNoJson : (List ℕ → Refusal → Type 0) → List ℕ → List ℕ → Type 0
IsNoJson Refuses text json = (place : RefusalLocation) × (why : RefusalReason)
    × Refuses text (refusal_is.Text place why)
    × (json ≡ compact_text (refusal_data place why))

-- why a text has no rules, and no optimized rules: no JSON, no list, or a value that is no rule
abbrev pub IsNoRules : List ℕ → List ℕ → Type 0
IsNoRules = IsNoJson IsRefusedAsRules

abbrev pub IsNoOptimized : List ℕ → List ℕ → Type 0
IsNoOptimized = IsNoJson IsRefusedAsOptimized

-- nothing is refused
abbrev pub Never : List ℕ → Type 0
Never json = ⊥
