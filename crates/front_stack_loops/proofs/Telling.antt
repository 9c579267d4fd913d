-- Errors one after another; places in order.
use Rattle.std.proofs.Common.{◌≡◌, ℕ, ◌+◌, List, [], ◌∷◌, ◌++◌, map, Option, Some, None, Bool, false, slice_get, get_or, take, refl, sym, ◌∙◌, ap, subst, arith}
use Rattle.std.specs.Prelude.{IsPermutation}
use Rattle.std.specs.Option.{option_map}
use Rattle.std.specs.List.Sorted.{IsSortedBy}
use Rattle.std.proofs.lemmas.List.{take_more, map-append}
use Rattle.std.proofs.lemmas.List.Sorted.{IsPermutation-map}
use Rattle.std.proofs.lemmas.Option.{slice_get_within, get_or_from_slice_get, slice_get-map}
use Rattle.base_language.specs.Pieces.Saying.{Complaint, AreErrorsFor}
use Rattle.base_language.specs.declared.grammar.Rule.{Rule}
use Rattle.base_language.specs.declared.runtime.errors.Error.{Error}
use Rattle.base_language.specs.declared.runtime.places.Span as code_span
use Rattle.front_spanned.specs.Nodes.{piece_of}
use Rattle.front_spanned.specs.Spanned.{Span}
use Rattle.front_stack_loops.specs.Certain.{complaint_at, is_before, IsSorted}

told_more : (fs : List Complaint) (es : List (Error Rule)) → AreErrorsFor fs es → (f : Complaint) (e : Error Rule) → AreErrorsFor (f ∷ []) (e ∷ []) → AreErrorsFor (fs ++ f ∷ []) (es ++ e ∷ [])
told_more [] [] h f e t = t
told_more [] (y ∷ es) h f e t = absurd h
told_more (x ∷ fs) [] h f e t = absurd h
told_more (x ∷ fs) (y ∷ es) h f e t = (h.0, told_more fs es h.1 f e t)

abbrev pub complaints : List code_span.Span → List Complaint
complaints ss = map complaint_at (map piece_of ss)

-- one place more is told
pub told_step : (ss : List code_span.Span) (i : ℕ) (s : code_span.Span) (old new : List (Error Rule)) (e : Error Rule) → slice_get ss i ≡ Some s → new ≡ old ++ e ∷ [] → AreErrorsFor (complaint_at (piece_of s) ∷ []) (e ∷ [])
    → AreErrorsFor (complaints (take i ss)) old → AreErrorsFor (complaints (take (i + 1) ss)) new
told_step ss i s old new e at is_new t h =
    let taken : complaints (take (i + 1) ss) ≡ complaints (take i ss) ++ complaint_at (piece_of s) ∷ []
    = ap complaints (take_more ss i s (slice_get_within ss i s at) ∙ ap (λ y. take i ss ++ y ∷ []) (get_or_from_slice_get ss i s s at))
    ∙ (ap (map complaint_at) (map-append piece_of (take i ss) (s ∷ [])) ∙ map-append complaint_at (map piece_of (take i ss)) (piece_of s ∷ [])) in
    subst (λ z. AreErrorsFor z new) (sym taken) (subst (λ z. AreErrorsFor (complaints (take i ss) ++ complaint_at (piece_of s) ∷ []) z) (sym is_new)
    (told_more (complaints (take i ss)) old h (complaint_at (piece_of s)) e t))

got_from : (ss : List code_span.Span) (i : ℕ) (x : Span) → slice_get (map piece_of ss) i ≡ Some x → (s : code_span.Span) × (slice_get ss i ≡ Some s) × (piece_of s ≡ x)
got_from ss i x e = go (slice_get ss i) refl (sym (slice_get-map piece_of ss i) ∙ e)
  where
    go : (o : Option code_span.Span) → slice_get ss i ≡ o → option_map piece_of o ≡ Some x → (s : code_span.Span) × (slice_get ss i ≡ Some s) × (piece_of s ≡ x)
    go None h g = cc
    go (Some s) h g = (s, h, cc)

abbrev code_before : code_span.Span → code_span.Span → Bool
code_before x y = is_before (piece_of x) (piece_of y)

pub sorted_spans : (found sorted : List code_span.Span) → IsPermutation found sorted → IsSortedBy code_before sorted → IsSorted (map piece_of found) (map piece_of sorted)
sorted_spans found sorted p r = record {
  same = IsPermutation-map piece_of found sorted p;
  rising = λ i x y e f. rise i x y (got_from sorted i x e) (got_from sorted (i + 1) y f);
}
  where
    rise : (i : ℕ) (x y : Span) → (s : code_span.Span) × (slice_get sorted i ≡ Some s) × (piece_of s ≡ x) → (s : code_span.Span) × (slice_get sorted (i + 1) ≡ Some s) × (piece_of s ≡ y) → is_before y x ≡ false
    rise i x y (f, at, is_x) (k, next, is_y) =
        let w = slice_get_within sorted (i + 1) k next in
        let h : code_before (get_or sorted (i + 1) f) (get_or sorted i f) ≡ false = r i f (omega arith) w in
        let a : get_or sorted i f ≡ f = get_or_from_slice_get sorted i f f at in
        let b : get_or sorted (i + 1) f ≡ k = get_or_from_slice_get sorted (i + 1) k f next in
        subst (λ z. is_before y z ≡ false) is_x (subst (λ z. is_before z (piece_of f) ≡ false) is_y
        (subst (λ z. code_before k z ≡ false) a (subst (λ z. code_before z (get_or sorted i f) ≡ false) b h)))
