-- Warnings of lists, with notes.
use Rattle.std.proofs.Common.{◌≡◌, ◌∙◌, ℕ, List, [], ◌∷◌, ◌++◌, All, Bool, Err, Global, IfOk, IfSome, None, Ok, Option, Result, Some, Vec, ap, chars, drop, length, map, refl, string_bytes, subst, sym}
use Rattle.std.proofs.lemmas.List.Elements.{All-cons, All-nil}
use Rattle.std.specs.List.{AllZip}
use Rattle.std.specs.declared.string.String.{String}
use Rattle.lint_findings.specs.Codes.{chosen_warnings, warning}
use Rattle.lint_findings.specs.Reports.{ReportsWarning}
use Rattle.lint_findings.specs.declared.codes.Code.TheVariants as code
use Rattle.lint_findings.specs.declared.diagnostic.Diagnostic.{Diagnostic}
use Rattle.lint_findings.proofs.Zips.{zip_both, zip_map}
use Rattle.base_language.specs.Language.Text.{Text}
use Rattle.base_language.specs.Pieces.Saying.{written}
use Rattle.base_language.specs.declared.runtime.places.Span as code_span
use Rattle.lint_diagnostics.specs.Diagnosis.{AreTrueNotes, ReportRules, ReportsList}
use Rattle.lint_diagnostics.specs.Differences.{ShowsDifference}
use Rattle.lint_diagnostics.specs.Messages.{ReportsDifference, difference_message}
use Rattle.lint_diagnostics.specs.declared.difference.Difference.{Difference}
use Rattle.lint_hints.specs.declared.help.Related.{Related}
use Rattle.lint_patterns.specs.Rewritten.{FindsLists, is_optional_name}
use Rattle.front_spanned.specs.Nodes.{piece_of}
use Rattle.front_spanned.specs.Spanned.{Span, SpannedRule}

-- a warning with these notes
pub with_notes : (text : List ℕ) (name : Span) (d : Diagnostic) (notes : Vec Related Global) → ReportsWarning (warning code.RewrittenList name) d → d.related ≡ notes → AreTrueNotes text name notes.items → ReportsList text name d
with_notes text name d notes w e n = record {
  warns = w;
  notes = subst (λ rs. AreTrueNotes text name rs.items) (sym e) n;
}

-- one note
pub one_note : (text : List ℕ) (name : Span) (notes before : List Related) (note : Related) → notes ≡ before ++ note ∷ [] → before ≡ [] → ReportsDifference text (chars (written name)) (string_bytes note.message) → AreTrueNotes text name notes
one_note text name notes before note e none r =
    let P : Related → Type 0 = λ n. ReportsDifference text (chars (written name)) (string_bytes n.message) in
    subst (All P) (sym (e ∙ ap (λ ns. ns ++ note ∷ []) none)) (All-cons P note [] r (All-nil P))

-- a message about a difference that was found
pub about : {E : Type 0} (grammar : List ℕ) (n : Text) (d : Difference) (result : Result (Option (String Global)) E) → ShowsDifference grammar n d
    → IfOk result (λ found. IfSome found (λ message. string_bytes message ≡ difference_message d))
    → IfOk result (λ found. IfSome found (λ message. ReportsDifference grammar n (string_bytes message)))
about grammar n d (Ok (Some message)) s e = record {
  difference = d;
  shows = s;
  same = e;
}
about grammar n d (Ok None) s e = tt
about grammar n d (Err x) s e = tt

-- without their notes
list_warnings : (text : List ℕ) (names : List code_span.Span) (ds : List Diagnostic) → AllZip (λ name. ReportsList text (piece_of name)) names ds → AllZip ReportsWarning (map (warning code.RewrittenList) (map piece_of names)) ds
list_warnings text [] [] h = tt
list_warnings text [] (d ∷ ds) h = absurd h
list_warnings text (n ∷ ns) [] h = absurd h
list_warnings text (n ∷ ns) (d ∷ ds) h = (h.0.warns, list_warnings text ns ds h.1)

-- after those of the other codes
after_zip : {X Y : Type 0} (R : X → Y → Type 0) (xs : List X) (ys zs : List Y) → AllZip R xs ys → drop (length xs) (ys ++ zs) ≡ zs
after_zip R [] [] zs h = refl
after_zip R [] (y ∷ ys) zs h = absurd h
after_zip R (x ∷ xs) [] zs h = absurd h
after_zip R (x ∷ xs) (y ∷ ys) zs h = after_zip R xs ys zs h.1

pub all_reported : (has_all : Bool) (starts : List Text) (text : List ℕ) (rules : List SpannedRule) (names : List code_span.Span) (first others all : List Diagnostic)
    → FindsLists (is_optional_name rules) rules (map piece_of names) → AllZip ReportsWarning (chosen_warnings has_all starts rules) first → AllZip (λ name. ReportsList text (piece_of name)) names others → all ≡ first ++ others
    → ReportRules has_all starts text rules all
all_reported has_all starts text rules names first others all found each listed whole =
    let warnings = chosen_warnings has_all starts rules in
    subst (λ ds. ReportRules has_all starts text rules ds) (sym whole) (record {
      lists = map piece_of names;
      found = found;
      each = zip_both ReportsWarning warnings (map (warning code.RewrittenList) (map piece_of names)) first others each (list_warnings text names others listed);
      last = subst (λ ds. AllZip (ReportsList text) (map piece_of names) ds) (sym (after_zip ReportsWarning warnings first others each)) (zip_map (ReportsList text) piece_of names others listed);
    })
