-- A text's diagnostics, by the outcome of its front end.
use Rattle.std.proofs.Common.{◌≡◌, ◌≢◌, ◌∙◌, ℕ, List, [], ◌∷◌, ◌++◌, Bool, true, false, ◌||◌, Result, Ok, Err, IfOk, Vec, Global, filter, map, refl, subst, sym, ap}
use Rattle.std.specs.Borrow.{Bor}
use Rattle.std.specs.List.{AllZip, list_any}
use Rattle.lint_findings.specs.Codes.{warning}
use Rattle.lint_findings.specs.Fragments.{Fragment}
use Rattle.lint_findings.specs.Starts.{is_unknown, names_of, place_of, stated_starts}
use Rattle.lint_findings.specs.declared.codes.Code.TheVariants as code
use Rattle.lint_findings.specs.Reports.{ReportsFlawFound, ReportsNameFinding, ReportsRefusal, ReportsRuleFinding, ReportsSyntax, ReportsWarning, is_error, is_severe}
use Rattle.lint_findings.specs.declared.codes.Severity.TheVariants as severity
use Rattle.lint_findings.specs.declared.diagnostic.Diagnostic.{Diagnostic}
use Rattle.base_language.specs.Language.Text.{Text}
use Rattle.lint_diagnostics.specs.Differences.{IsSpelled}
use Rattle.lint_diagnostics.specs.Diagnosis.{IsDiagnosisWith, ReportRules, ReportWarnings, accepted, all_starts, refused}
use Rattle.front_names.specs.NameFindings.{told_by}
use Rattle.front_spanned.specs.Spanned.{SpannedRule}
use Rattle.lint_findings.specs.Allowances.{ArePartsOf, LeavesOutAllowed}
use Rattle.pest_meta.specs.Opening.{IsOpenError}
use Rattle.pest_meta.specs.Spelling.{HasAnswer}
use Rattle.pest_meta.specs.WithSpans.{SpellsWithSpans}
use Rattle.pest_meta.specs.declared.opened.OpenError.{OpenError}
use Rattle.pest_meta.specs.declared.opened.OpenError.TheVariants as refusal
use Rattle.lint_diagnostics.proofs.Parts.{rules_text}
use Rattle.pest_meta.proofs.Accepted.{spelled_have_answers}

-- a refusal has a diagnostic that is an error
first_severe : {X : Type 0} (R : X → Diagnostic → Type 0) → ((x : X) (d : Diagnostic) → R x d → d.severity ≡ severity.Error) → (xs : List X) (ds : List Diagnostic) → xs ≢ [] → AllZip R xs ds
    → list_any is_error ds ≡ true
first_severe R f [] ds n h = absurd (n refl)
first_severe R f (x ∷ xs) [] n h = absurd h
first_severe R f (x ∷ xs) (d ∷ ds) n h = ap (λ b. b || list_any is_error ds) (ap is_severe (f x d h.0))

one_some : {X : Type 0} (x : X) → x ∷ [] ≢ []
one_some x h = cc

severe : (text : List ℕ) (error : OpenError) (ds : List Diagnostic) → IsOpenError text error → ReportsRefusal text error ds → list_any is_error ds ≡ true
severe text (refusal.Memory e) ds o r = absurd r
severe text (refusal.Syntax error) ds o r = first_severe (ReportsSyntax text) (λ x d k. k.severity) (error ∷ []) ds (one_some error) r
severe text (refusal.Names findings) ds o r = first_severe ReportsNameFinding (λ x d k. k.complaint.severity) findings.items ds (λ e. o.some (sym o.told ∙ ap told_by e)) r
severe text (refusal.Flaw flaw) ds o r = first_severe ReportsFlawFound (λ x d k. k.severity) (flaw ∷ []) ds (one_some flaw) r
severe text (refusal.Rules findings) ds o r = first_severe ReportsRuleFinding (λ x d k. k.severity) findings.items ds o.some r

pub diagnosed_refused : {E : Type 0} (all : Bool) (starts : List Text) (text : List ℕ) (error : OpenError) (result : Result (Vec Diagnostic Global) E) → IsOpenError text error
    → IfOk result (λ ds. ReportsRefusal text error ds.items) → IfOk result (λ ds. IsDiagnosisWith all starts text ds.items)
diagnosed_refused all starts text error (Ok ds) o r = refused error o r
diagnosed_refused all starts text error (Err e) o r = tt

pub answered_refused : {E : Type 0} (text : List ℕ) (error : OpenError) (result : Result (Vec Diagnostic Global) E) → IsOpenError text error
    → IfOk result (λ ds. ReportsRefusal text error ds.items) → IfOk result (λ ds. list_any is_error ds.items ≡ false → HasAnswer text)
answered_refused text error (Ok ds) o r = λ none. absurd (let wrong : true ≡ false = sym (severe text error ds.items o r) ∙ none in cc)
answered_refused text error (Err e) o r = tt

pub diagnosed_accepted : {E : Type 0} (all : Bool) (starts : List Text) (text : List ℕ) (builtins : List (Bor (List ℕ))) (rules : List SpannedRule) (result : Result (Vec Diagnostic Global) E)
    → SpellsWithSpans text builtins rules → IfOk result (λ ds. ReportWarnings all starts text ds.items)
    → IfOk result (λ ds. IsDiagnosisWith all starts text ds.items)
diagnosed_accepted all starts text builtins rules (Ok ds) s warnings = accepted (spelled_have_answers text builtins rules s) warnings
diagnosed_accepted all starts text builtins rules (Err x) s warnings = tt

pub answered : {E : Type 0} (text : List ℕ) (builtins : List (Bor (List ℕ))) (rules : List SpannedRule) (result : Result (Vec Diagnostic Global) E)
    → SpellsWithSpans text builtins rules → IfOk result (λ ds. list_any is_error ds.items ≡ false → HasAnswer text)
answered text builtins rules (Ok ds) s = λ none. spelled_have_answers text builtins rules s
answered text builtins rules (Err x) s = tt

-- warnings of the rules that a text spells are those of the text
pub of_rules : (has_all : Bool) (starts : List Text) (text : List ℕ) (rules : List SpannedRule) (stated : List Fragment) (strays all shown whole : List Diagnostic) → IsSpelled text rules → stated ≡ stated_starts text
    → AllZip ReportsWarning (map (warning code.UnknownStart) (map (place_of text) (filter (is_unknown rules) stated))) strays → ReportRules has_all (all_starts starts (names_of stated)) text rules all
    → (ArePartsOf text rules → LeavesOutAllowed text rules all shown) → whole ≡ strays ++ shown → ReportWarnings has_all starts text whole
of_rules has_all starts text rules stated strays all shown whole spelled same unknown each left together = record {
  trees = spelled.1.trees;
  of_text = spelled.1.of_text;
  rules = rules;
  read = spelled.1.read;
  strays = strays;
  unknown = subst (λ ns. AllZip ReportsWarning (map (warning code.UnknownStart) (map (place_of text) (filter (is_unknown rules) ns))) strays) same unknown;
  all = all;
  each = subst (λ ns. ReportRules has_all (all_starts starts (names_of ns)) text rules all) same each;
  shown = shown;
  left = left (rules_text text spelled.1.read);
  whole = together;
}
