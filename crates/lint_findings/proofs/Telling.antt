-- Choices with alternatives that are never taken, one warning for each.
use Rattle.std.proofs.Common.{◌≡◌, ◌∙◌, ℕ, ◌+◌, ◌<◌, ◌≤◌, List, [], ◌∷◌, ◌++◌, ap, append-nil, get_or, length, map, subst, sym, take, refl}
use Rattle.std.specs.Prelude.{None, Some, flat_map, slice_get}
use Rattle.std.specs.List.{AllZip}
use Rattle.std.proofs.lemmas.Grind.{flat_map-append}
use Rattle.std.proofs.lemmas.List.{map-append, take_all, take_more}
use Rattle.std.proofs.lemmas.List.Folds.{flat_map-map}
use Rattle.base_language.specs.Pieces.Saying.{Span, piece_of}
use Rattle.base_language.specs.declared.runtime.places.Span as code_span
use Rattle.lint_findings.specs.Codes.{Warning, warning}
use Rattle.lint_findings.specs.Reports.{ReportsWarning}
use Rattle.lint_findings.specs.declared.codes.Code.{Code}
use Rattle.lint_findings.specs.declared.diagnostic.Diagnostic.{Diagnostic}
use Rattle.lint_findings.proofs.Zips.{zip_both}
use Rattle.lint_warnings.specs.Groups.{pieces_of}
use Rattle.lint_warnings.specs.declared.choices.UnreachableChoice.{UnreachableChoice}

-- the warnings of a choice, and of all
abbrev pub told : Code → UnreachableChoice → List Warning
told c choice = map (warning c) (take 1 (pieces_of choice))

abbrev pub all_told : Code → List UnreachableChoice → List Warning
all_told c choices = flat_map (told c) choices

-- the first span is told, or there is none
pub first_told : (c : Code) (earlier : List Warning) (old new : List Diagnostic) (spans : List code_span.Span) (x : code_span.Span) (d : Diagnostic) → Some x ≡ slice_get spans 0
    → ReportsWarning (warning c (piece_of x)) d → new ≡ old ++ d ∷ [] → AllZip ReportsWarning earlier old → AllZip ReportsWarning (earlier ++ map (warning c) (take 1 (map piece_of spans))) new
first_told c earlier old new [] x d h r e all = cc
first_told c earlier old new (s ∷ ss) x d h r e all =
    let same : x ≡ s = cc in
    let report : ReportsWarning (warning c (piece_of s)) d = subst (λ y. ReportsWarning (warning c (piece_of y)) d) same r in
    subst (λ ds. AllZip ReportsWarning (earlier ++ warning c (piece_of s) ∷ []) ds) (sym e) (zip_both ReportsWarning earlier (warning c (piece_of s) ∷ []) old (d ∷ []) all (report, tt))

pub none_told : (c : Code) (earlier : List Warning) (old : List Diagnostic) (spans : List code_span.Span) → None ≡ slice_get spans 0
    → AllZip ReportsWarning earlier old → AllZip ReportsWarning (earlier ++ map (warning c) (take 1 (map piece_of spans))) old
none_told c earlier old [] h all = subst (λ ws. AllZip ReportsWarning ws old) (sym (append-nil earlier)) all
none_told c earlier old (s ∷ ss) h all = cc

-- one more choice
pub choice_told : (c : Code) (choices : List UnreachableChoice) (i : ℕ) (x : UnreachableChoice) (new : List Diagnostic) → i < length choices → x ≡ get_or choices i x
    → AllZip ReportsWarning (all_told c (take i choices) ++ told c x) new → AllZip ReportsWarning (all_told c (take (i + 1) choices)) new
choice_told c choices i x new h at all =
    let more : take (i + 1) choices ≡ take i choices ++ x ∷ [] = take_more choices i x h ∙ ap (λ y. take i choices ++ y ∷ []) (sym at) in
    let whole : all_told c (take (i + 1) choices) ≡ all_told c (take i choices) ++ told c x =
    ap (all_told c) more ∙ (flat_map-append (told c) (take i choices) (x ∷ []) ∙ ap (λ l. all_told c (take i choices) ++ l) (append-nil (told c x)))
    in
    subst (λ ws. AllZip ReportsWarning ws new) (sym whole) all

-- the warnings of spans, list by list
map_flat : (c : Code) (groups : List (List Span)) → flat_map (λ spans. map (warning c) (take 1 spans)) groups ≡ map (warning c) (flat_map (take 1) groups)
map_flat c [] = refl
map_flat c (g ∷ gs) =
    ap (λ l. map (warning c) (take 1 g) ++ l) (map_flat c gs) ∙ sym (map-append (warning c) (take 1 g) (flat_map (take 1) gs))

pub choices_told : (c : Code) (choices shown : List UnreachableChoice) (groups : List (List Span)) (i : ℕ) (diagnostics : List Diagnostic) → length shown ≤ i → shown ≡ choices → map pieces_of choices ≡ groups
    → AllZip ReportsWarning (all_told c (take i shown)) diagnostics → AllZip ReportsWarning (map (warning c) (flat_map (take 1) groups)) diagnostics
choices_told c choices shown groups i diagnostics h same e all =
    let whole : all_told c (take i shown) ≡ map (warning c) (flat_map (take 1) groups) =
    ap (all_told c) (take_all i shown h ∙ same)
    ∙ (sym (flat_map-map (λ spans. map (warning c) (take 1 spans)) pieces_of choices)
    ∙ (ap (flat_map (λ spans. map (warning c) (take 1 spans))) e ∙ map_flat c groups))
    in
    subst (λ ws. AllZip ReportsWarning ws diagnostics) whole all
