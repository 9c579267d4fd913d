-- Names that are reserved.
use Rattle.std.proofs.Common.{◌≡◌, ◌-◌, suc, ◌≤◌, arith, ◌∙◌, ap, ℕ, List, [], ◌∷◌, Bool, true, false, cond, length, map, not, refl, subst}
use Rattle.std.proofs.lemmas.Bool.Decides.{nat_tests}
use Rattle.std.proofs.Math.Seq.{take-length}
use Rattle.std.specs.Prelude.{◌==◌, slice_range}
use Rattle.std.specs.List.{AllZip}
use Rattle.std.specs.Str.{IsCharBoundary, IsUtf8}
use Rattle.std.proofs.lemmas.Str.{IsCharBoundary-start}
use Rattle.base_language.specs.Language.Builtins.{is_one_of}
use Rattle.base_language.specs.Language.Text.{Text}
use Rattle.base_language.specs.Pieces.Saying.{AreErrorsFor, Span, piece}
use Rattle.base_language.specs.declared.grammar.Rule.{Rule}
use Rattle.base_language.specs.declared.runtime.errors.Error.{Error}
use Rattle.front_names.specs.Names.{places_of, said}

nonzero : (n : ℕ) → not (suc n == 0) ≡ true
nonzero n = grind (arith, nat_tests)

one_error : {A B C : Type 0} (R : B → C → Type 0) (f : A → B) (x : A) (b : Bool) (es : List C) → AllZip R (map f (cond b (x ∷ []) [])) es → not (length es == 0) ≡ b
one_error R f x true [] h = absurd h
one_error R f x true (e ∷ es) h = nonzero (length es)
one_error R f x false [] h = refl
one_error R f x false (e ∷ es) h = absurd h

whole : (xs : List ℕ) → slice_range xs 0 (length xs) ≡ xs
whole xs = let e : length xs - 0 ≡ length xs = omega arith in rw e (take-length xs)

-- there is an error about a name exactly where it is one of those that are reserved
pub has_error_for : (names : List Text) (before after : Text) (name : List ℕ) (places : List Span) (es : List (Error Rule)) → places ≡ piece name 0 (length name) ∷ [] → AreErrorsFor (said before after (places_of names places)) es → not (length es == 0) ≡ is_one_of names name
has_error_for names before after name places es q h =
    let P : List Span → Type 0 = λ ps. AreErrorsFor (said before after (places_of names ps)) es in
    one_error _ _ (piece name 0 (length name)) (is_one_of names (slice_range name 0 (length name))) es (subst P q h)
    ∙ ap (is_one_of names) (whole name)

-- a text is a part of itself
pub whole_text : (bs : List ℕ) → IsUtf8 bs → (0 ≤ length bs) × IsCharBoundary bs 0 × IsCharBoundary bs (length bs)
whole_text bs u = (omega arith, IsCharBoundary-start bs u, (omega arith, λ h. absurd (omega arith)))
