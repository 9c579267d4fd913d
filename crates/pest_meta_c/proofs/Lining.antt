-- Lines of diagnostics, one more at a time.
use Rattle.std.proofs.Common.{◌≡◌, ◌∙◌, ℕ, suc, ◌+◌, ◌<◌, ◌≤◌, List, [], ◌∷◌, ◌++◌, Result, Ok, Err, IfOk, String, Global, false, codes, length, drop, get_or, refl, sym, ap, add-one, append_assoc, append-nil, drop-cons, string_bytes, subst}
use Rattle.std.proofs.lemmas.List.{drop_all, nil_from_length}
use Rattle.std.specs.List.{AllZip, list_any}
use Rattle.std.specs.declared.alloc.AllocError.{AllocError}
use Rattle.lint_findings.specs.Reports.{is_error}
use Rattle.lint_findings.specs.declared.diagnostic.Diagnostic.{Diagnostic}
use Rattle.lint_output.specs.Prints.{IsPrinted}
use Rattle.lint_output.specs.declared.Style.TheVariants as style
use Rattle.lint_diagnostics.specs.Diagnosis.{IsDiagnosis}
use Rattle.pest_meta.specs.Spelling.{HasAnswer}
use Rattle.pest_meta_c.specs.Diagnostics.{AreDiagnostics, ArePrinted, joined}
use Rattle.pest_meta_c.specs.Handing.{HandsOver}
use Rattle.pest_meta_c.specs.Refusals.{Never}

-- with lines of those that are left all are printed
abbrev pub GoesOn : List Diagnostic → ℕ → List ℕ → Type 0
GoesOn ds i written = (lines : List (List ℕ)) → AllZip (IsPrinted style.Json) (drop i ds) lines → ArePrinted ds (written ++ joined lines)

pub begins : (ds : List Diagnostic) (written : List ℕ) → written ≡ [] → GoesOn ds 0 written
begins ds written e lines each = (lines, each, ap (λ t. t ++ joined lines) e)

pub one_more : (ds : List Diagnostic) (i : ℕ) (d : Diagnostic) (written line new : List ℕ) → d ≡ get_or ds i d → i < length ds → IsPrinted style.Json d line → new ≡ written ++ line → GoesOn ds i written → GoesOn ds (i + 1) new
one_more ds i d written line new at h printed e before lines each =
    let next : drop i ds ≡ d ∷ drop (i + 1) ds = rw add-one (drop-cons ds i d h ∙ ap (λ z. z ∷ drop (suc i) ds) (sym at)) in
    let zipped = subst (λ zs. AllZip (IsPrinted style.Json) zs (line ∷ lines)) (sym next) (printed, each) in
    subst (λ t. ArePrinted ds t) (sym (ap (λ t. t ++ joined lines) e ∙ append_assoc written line (joined lines))) (before (line ∷ lines) zipped)

pub ends : (ds : List Diagnostic) (i : ℕ) (written : List ℕ) → length ds ≤ i → GoesOn ds i written → ArePrinted ds written
ends ds i written h before =
    subst (λ t. ArePrinted ds t) (append-nil written) (before [] (subst (λ zs. AllZip (IsPrinted style.Json) zs []) (sym (drop_all i ds h)) tt))

-- the lines of a diagnosis
pub diagnosed : (text : List ℕ) (ds seen : List Diagnostic) (lines : Result (String Global) AllocError) → IsDiagnosis [] text ds → (list_any is_error ds ≡ false → HasAnswer text) → seen ≡ ds
    → IfOk lines (λ t. ArePrinted seen (string_bytes t)) → IfOk lines (λ t. AreDiagnostics text (string_bytes t))
diagnosed text ds seen (Ok t) diagnosis accepted same printed = record {
  diagnostics = ds;
  diagnosis = diagnosis;
  accepted = accepted;
  printed = subst (λ z. ArePrinted z (string_bytes t)) same printed;
}
diagnosed text ds seen (Err reason) diagnosis accepted same printed = tt

-- a line is not empty
filled : (l line rest : List ℕ) → line ≡ l ++ codes "\n" → line ++ rest ≡ [] → ⊥
filled [] line rest e none = let t : 10 ∷ rest ≡ [] = ap (λ z. z ++ rest) (sym e) ∙ none in cc
filled (x ∷ l) line rest e none = let t : x ∷ ((l ++ codes "\n") ++ rest) ≡ [] = ap (λ z. z ++ rest) (sym e) ∙ none in cc

none_printed : (ds : List Diagnostic) (lines : List (List ℕ)) → AllZip (IsPrinted style.Json) ds lines → joined lines ≡ [] → ds ≡ []
none_printed [] lines each e = refl
none_printed (d ∷ ds) [] each e = absurd each
none_printed (d ∷ ds) (line ∷ lines) each e = let first = each.0 in absurd (filled first.0 line (joined lines) first.1 e)

no_lines : (text bytes : List ℕ) → bytes ≡ [] → AreDiagnostics text bytes → HasAnswer text
no_lines text bytes e h =
    let p = h.printed in
    h.accepted (ap (list_any is_error) (none_printed h.diagnostics p.0 p.1 (sym p.2 ∙ e)))

-- a text of which nothing is said is accepted
pub accepted_silently : (text old new : List ℕ) (needed status : ℕ) → HandsOver (AreDiagnostics text) Never old new needed status → status ≡ 0 → needed ≡ 0 → HasAnswer text
accepted_silently text old new needed status h answered nothing =
    let w = h.answered answered in
    no_lines text w.bytes (nil_from_length w.bytes (sym w.told ∙ nothing)) w.hold
