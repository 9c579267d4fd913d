-- Choices with alternatives that are never taken, and the alternatives of one.
use Rattle.std.proofs.Common.{◌≡◌, ◌==◌, ℕ, ◌+◌, ◌<◌, List, [], ◌∷◌, ◌++◌, true, false, ◌||◌, Option, Some, None, if◌then◌else◌, refl, ap, append-nil, arith, eqb-true, get_or, length, map, sym, take, ◌∙◌}
use Rattle.std.specs.Prelude.{flat_map}
use Rattle.std.proofs.lemmas.Grind.{flat_map-append}
use Rattle.std.proofs.lemmas.List.{take_more}
use Rattle.base_language.specs.Language.Text.{Text}
use Rattle.base_language.specs.declared.runtime.places.Span as code
use Rattle.front_spanned.specs.Nodes.{piece_of}
use Rattle.front_spanned.specs.Erasure.{without_spans}
use Rattle.front_spanned.specs.Spanned.{Span, Spanned, span_of}
use Rattle.lint_warnings.specs.Choices.{alternatives, beginning_of, begins_so, first_call_of, if_some, is_call_of, unreachable_after, unreachable_at}

-- spans in a list of one list, or none
pub none_grouped : (spans : List code.Span) (found : List Span) → map piece_of spans ≡ found → (length spans == 0) ≡ true → if_some found ≡ []
none_grouped [] found e h = ap if_some (sym e)
none_grouped (s ∷ ss) found e h = let z = eqb-true (length (s ∷ ss)) 0 h in absurd (omega arith)

pub some_grouped : (spans : List code.Span) (found : List Span) → map piece_of spans ≡ found → (length spans == 0) ≡ false → if_some found ≡ map piece_of spans ∷ []
some_grouped [] found e h = absurd (let z : true ≡ false = h in cc)
some_grouped (s ∷ ss) found e h = ap if_some (sym e)

-- of one alternative nothing is unreachable
begun_by_none : (o p : Option Text) → (begins_so [] o || is_call_of [] p) ≡ false
begun_by_none None None = refl
begun_by_none None (Some n) = refl
begun_by_none (Some t) None = refl
begun_by_none (Some t) (Some n) = refl

pub alone_has_none : (x : Spanned) → alternatives x ≡ x ∷ [] → unreachable_at x ≡ []
alone_has_none x e =
    ap (unreachable_after []) e
    ∙ ap (λ b. (if b then span_of x ∷ [] else []) ++ []) (begun_by_none (beginning_of (without_spans x)) (first_call_of (without_spans x)))

-- one item more, and all
pub flat_more : {X A : Type 0} (f : X → List A) (xs : List X) (i : ℕ) (x : X) (old new : List A) → i < length xs → x ≡ get_or xs i x → new ≡ old ++ f x → old ≡ flat_map f (take i xs) → new ≡ flat_map f (take (i + 1) xs)
flat_more f xs i x old new h at e o =
    let more : take (i + 1) xs ≡ take i xs ++ x ∷ [] = take_more xs i x h ∙ ap (λ y. take i xs ++ y ∷ []) (sym at) in
    e ∙ (ap (λ l. l ++ f x) o
    ∙ sym (ap (flat_map f) more ∙ (flat_map-append f (take i xs) (x ∷ []) ∙ ap (λ l. flat_map f (take i xs) ++ l) (append-nil (f x)))))
