-- Findings by their places, as code sorts them; errors one after another.
use Rattle.std.proofs.Common.{cond, ◌≡◌, ℕ, ◌+◌, List, [], ◌∷◌, ◌++◌, map, Option, Some, None, Bool, true, false, slice_get, get_or, take, length, refl, sym, ◌∙◌, ap, subst, arith}
use Rattle.std.specs.Prelude.{◌==◌, IsPermutation, filter}
use Rattle.std.specs.Option.{option_map}
use Rattle.std.specs.List.Sorted.{IsSortedBy, IsStableBy}
use Rattle.std.proofs.lemmas.Bool.Decides.{nat_tests}
use Rattle.std.proofs.lemmas.List.{take_more, map-append, nil_from_length}
use Rattle.std.proofs.lemmas.List.Sorted.{IsPermutation-map, length_permutation}
use Rattle.std.proofs.lemmas.Option.{slice_get_within, get_or_from_slice_get, slice_get-map}
use Rattle.base_language.specs.declared.grammar.Rule.{Rule}
use Rattle.base_language.specs.declared.runtime.errors.Error.{Error}
use Rattle.front_validator.specs.Findings.{Finding, is_before, is_level, IsSortedBySpan}
use Rattle.base_language.specs.Pieces.Saying.{IsErrorAt, AreErrorsFor}
use Rattle.front_validator.specs.Reporting.{finding_of, findings_of}
use Rattle.front_validator.specs.declared.problems.RuleFinding as code

-- what is got from a mapped list comes from the list
got_from : (fs : List code.RuleFinding) (i : ℕ) (x : Finding) → slice_get (findings_of fs) i ≡ Some x → (f : code.RuleFinding) × (slice_get fs i ≡ Some f) × (finding_of f ≡ x)
got_from fs i x e = go (slice_get fs i) refl (sym (slice_get-map finding_of fs i) ∙ e)
  where
    go : (o : Option code.RuleFinding) → slice_get fs i ≡ o → option_map finding_of o ≡ Some x → (f : code.RuleFinding) × (slice_get fs i ≡ Some f) × (finding_of f ≡ x)
    go None h g = cc
    go (Some f) h g = (f, h, cc)

filter-map : {A B : Type 0} (p : B → Bool) (f : A → B) (xs : List A) → filter p (map f xs) ≡ map f (filter (λ x. p (f x)) xs)
filter-map p f [] = refl
filter-map {A} {B} p f (x ∷ xs) = go (p (f x)) (filter-map p f xs)
  where
    go : (b : Bool) → filter p (map f xs) ≡ map f (filter (λ y. p (f y)) xs) → cond b (f x ∷ filter p (map f xs)) (filter p (map f xs)) ≡ map f (cond b (x ∷ filter (λ y. p (f y)) xs) (filter (λ y. p (f y)) xs))
    go true h = ap (λ z. f x ∷ z) h
    go false h = h

abbrev code_before : code.RuleFinding → code.RuleFinding → Bool
code_before x y = is_before (finding_of x) (finding_of y)

pub sorted_findings : (found sorted : List code.RuleFinding) → IsPermutation found sorted → IsSortedBy code_before sorted → IsStableBy code_before found sorted → IsSortedBySpan (findings_of found) (findings_of sorted)
sorted_findings found sorted p r s = record {
  same = IsPermutation-map finding_of found sorted p;
  rising = λ i x y e f. rise i x y (got_from sorted i x e) (got_from sorted (i + 1) y f);
  stable = λ i x e. level i x (got_from found i x e);
}
  where
    rise : (i : ℕ) (x y : Finding) → (f : code.RuleFinding) × (slice_get sorted i ≡ Some f) × (finding_of f ≡ x) → (f : code.RuleFinding) × (slice_get sorted (i + 1) ≡ Some f) × (finding_of f ≡ y) → is_before y x ≡ false
    rise i x y (f, at, is_x) (k, next, is_y) =
        let w = slice_get_within sorted (i + 1) k next in
        let h : code_before (get_or sorted (i + 1) f) (get_or sorted i f) ≡ false = r i f (omega arith) w in
        let a : get_or sorted i f ≡ f = get_or_from_slice_get sorted i f f at in
        let b : get_or sorted (i + 1) f ≡ k = get_or_from_slice_get sorted (i + 1) k f next in
        subst (λ z. is_before y z ≡ false) is_x (subst (λ z. is_before z (finding_of f) ≡ false) is_y
        (subst (λ z. code_before k z ≡ false) a (subst (λ z. code_before z (get_or sorted i f) ≡ false) b h)))

    level : (i : ℕ) (x : Finding) → (f : code.RuleFinding) × (slice_get found i ≡ Some f) × (finding_of f ≡ x) → filter (is_level x) (findings_of sorted) ≡ filter (is_level x) (findings_of found)
    level i x (f, at, is_x) = subst (λ z. filter (is_level z) (findings_of sorted) ≡ filter (is_level z) (findings_of found)) is_x
        (filter-map (is_level (finding_of f)) finding_of sorted ∙ (ap (λ z. findings_of z) (s f) ∙ sym (filter-map (is_level (finding_of f)) finding_of found)))

told_more : (fs : List Finding) (es : List (Error Rule)) → AreErrorsFor fs es → (f : Finding) (e : Error Rule)
    → IsErrorAt f.message f.span e → AreErrorsFor (fs ++ f ∷ []) (es ++ e ∷ [])
told_more [] [] h f e t = (t, tt)
told_more [] (y ∷ es) h f e t = absurd h
told_more (x ∷ fs) [] h f e t = absurd h
told_more (x ∷ fs) (y ∷ es) h f e t = (h.0, told_more fs es h.1 f e t)

-- where nothing is found, nothing is told
pub told_nothing : (fs : List code.RuleFinding) → (length fs == 0) ≡ true → AreErrorsFor (findings_of fs) []
told_nothing [] e = tt
told_nothing (f ∷ fs) e = absurd (grind (arith, nat_tests, e))

-- one finding more is told
pub told_step : (fs : List code.RuleFinding) (i : ℕ) (f : code.RuleFinding) (old new : List (Error Rule)) (e : Error Rule) → slice_get fs i ≡ Some f → new ≡ old ++ e ∷ [] → IsErrorAt (finding_of f).message (finding_of f).span e
    → AreErrorsFor (findings_of (take i fs)) old → AreErrorsFor (findings_of (take (i + 1) fs)) new
told_step fs i f old new e at is_new t h =
    let taken : findings_of (take (i + 1) fs) ≡ findings_of (take i fs) ++ finding_of f ∷ []
    = ap (λ z. findings_of z) (take_more fs i f (slice_get_within fs i f at) ∙ ap (λ y. take i fs ++ y ∷ []) (get_or_from_slice_get fs i f f at)) ∙ map-append finding_of (take i fs) (f ∷ []) in
    subst (λ z. AreErrorsFor z new) (sym taken) (subst (λ z. AreErrorsFor (findings_of (take i fs) ++ finding_of f ∷ []) z) (sym is_new)
    (told_more (findings_of (take i fs)) old h (finding_of f) e t))

-- where no error is told, nothing was found
pub told_empty : (fs : List Finding) (es : List (Error Rule)) → AreErrorsFor fs es → es ≡ [] → fs ≡ []
told_empty [] es h e = refl
told_empty (f ∷ fs) [] h e = absurd h
told_empty (f ∷ fs) (x ∷ es) h e = cc

-- where nothing was found, no error is told
pub nothing_told : (fs : List Finding) (es : List (Error Rule)) → AreErrorsFor fs es → fs ≡ [] → es ≡ []
nothing_told fs [] h e = refl
nothing_told [] (x ∷ es) h e = absurd h
nothing_told (f ∷ fs) (x ∷ es) h e = cc

pub none_found : (found sorted : List Finding) → IsSortedBySpan found sorted → sorted ≡ [] → found ≡ []
none_found found sorted s e =
    nil_from_length found (let l = length_permutation found sorted s.same in let m = ap (λ z. length z) e in omega arith)

pub none_sorted : (found sorted : List Finding) → IsSortedBySpan found sorted → found ≡ [] → sorted ≡ []
none_sorted found sorted s e =
    nil_from_length sorted (let l = length_permutation found sorted s.same in let m = ap (λ z. length z) e in omega arith)
