-- Warnings that lists keep and gain.
use Rattle.std.proofs.Common.{◌≡◌, ◌∙◌, ℕ, ◌+◌, ◌<◌, List, [], ◌∷◌, ◌++◌, ap, arith, get_or, inl, inr, length, map, set, subst, sym, take}
use Rattle.std.proofs.lemmas.List.{get_or-set_other, get_or_append_left, get_or_default, length-append, length-set, map-append, take_more}
use Rattle.std.proofs.lemmas.List.Elements.{All-push}
use Rattle.std.proofs.lemmas.List.Quantifiers.{any-set}
use Rattle.std.specs.Global.{Vec}
use Rattle.std.specs.List.{All, Any}
use Rattle.base_language.proofs.Surveys.{order}
use Rattle.base_language.specs.Pieces.Saying.{piece_of}
use Rattle.base_language.specs.declared.runtime.places.Span as code_span
use Rattle.lint_findings.specs.declared.codes.Code.{Code}
use Rattle.doc_pages.specs.Warnings.{KeepsWarnings, Warns}
use Rattle.doc_pages.specs.declared.warnings.RuleWarning.{RuleWarning}

pub any_of_more : {X : Type 0} (P : X → Type 0) (xs : List X) (y : X) → Any P xs → Any P (xs ++ y ∷ [])
any_of_more P xs y h = (
  h.0,
  h.1,
  omega (arith, h.2, length-append xs (y ∷ [])),
  get_or_append_left xs (y ∷ []) h.1 h.0 h.2 ∙ h.3,
  h.4,
)

-- one element is set to another of which as much holds
pub any_after_set : {X : Type 0} (P : X → Type 0) (xs : List X) (i : ℕ) (new : X) → i < length xs
    → (P (get_or xs i new) → P new) → Any P xs → Any P (set xs i new)
any_after_set {X} P xs i new l more h =
    let other : (h.0 ≡ i → ⊥) → Any P (set xs i new) =
    λ ne. (h.0, h.1, subst (λ n. h.0 < n) (sym (length-set xs i new)) h.2, get_or-set_other xs i h.0 new h.1 ne ∙ h.3, h.4) in
    let same : h.0 ≡ i → Any P (set xs i new) =
    λ e. any-set P xs i new l
    (more (subst P (sym h.3 ∙ ap (λ n. get_or xs n h.1) e ∙ get_or_default xs i h.1 new l) h.4)) in
    elim (order h.0 i) [
      | inl le ↦ elim (order i h.0) [ inl ge ↦ same (omega (arith, le, ge)) | inr below ↦ other (λ e. absurd (omega (arith, below, e))) ]
      | inr above ↦ other (λ e. absurd (omega (arith, above, e)))
    ]

-- one piece more of which lists warn
pub one_warned_more : (lists more : List (Vec RuleWarning)) (kind : Code) (parts : List code_span.Span) (i : ℕ)
    (part : code_span.Span) → i < length parts → part ≡ get_or parts i part → KeepsWarnings lists more
    → All (Warns lists kind) (map piece_of (take i parts)) → Warns more kind (piece_of part)
    → All (Warns more kind) (map piece_of (take (i + 1) parts))
one_warned_more lists more kind parts i part l is keeps before warned =
    let next : take (i + 1) parts ≡ take i parts ++ part ∷ [] =
    take_more parts i part l ∙ ap (λ x. take i parts ++ x ∷ []) (sym is) in
    subst (λ ps. All (Warns more kind) ps)
    (sym (ap (map piece_of) next ∙ map-append piece_of (take i parts) (part ∷ [])))
    (All-push (Warns more kind) (map piece_of (take i parts)) (piece_of part)
    (λ k d h. keeps kind (get_or (map piece_of (take i parts)) k d) (before k d h)) warned)
