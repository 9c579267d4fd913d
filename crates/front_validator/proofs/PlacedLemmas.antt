-- What is found in rules whose spans are of one text stands in that text.
use Rattle.std.proofs.Common.{◌≡◌, ℕ, zero, suc, List, [], ◌∷◌, ◌++◌, map, flat_map, Option, Some, None, slice_get, sym, subst, arith}
use Rattle.std.specs.Bool.{⊤}
use Rattle.std.specs.List.{All}
use Rattle.std.proofs.lemmas.List.Concat.{flat_map-cons}
use Rattle.std.proofs.lemmas.List.Elements.{All-nil, All-cons, All-append, All-map}
use Rattle.std.proofs.lemmas.List.Sorted.{All-permutation}
use Rattle.base_language.specs.Language.Text.{Text}
use Rattle.base_language.specs.Language.Expression.{Expression, Grammar}
use Rattle.front_spanned.specs.Spanned.{Span, span_of, Spanned, Leaf, One, Two, Seq, Choice, SpannedRule}
use Rattle.front_spanned.specs.Erasure.{rules_without_spans}
use Rattle.front_analysis.specs.Nodes.{postorder, every_node}
use Rattle.front_validator.specs.Findings.{Finding, last_alternative, Reports, reports_none, reports_at, OfRepeated, never_fails, takes_nothing, goes_on, OfRepetition, repetition, no_repetition, OfChoice, unreachable, reachable, no_choice, OfSkipped, skipped, not_skipped, OfRecursion, recursive, not_recursive, hidden, endless_at, AreFound, AreAllFound}
use Rattle.front_validator.specs.LeftRecursion.{Closed, Walks, walks_over, walks_closing, walks_outside, walks_again, walks_into, walks_inside, walks_first, walks_second, walks_neither, walks_other}
use Rattle.front_validator.specs.Placed.{IsIn, AreIn, ArePiecesOf}
use Rattle.front_validator.specs.Tags.{told_at, message_at, of_tag, of_tags_in, of_tags}
use Rattle.front_spanned.specs.Walk.{preorder}

-- what holds of all elements holds of one
pub at_one : {X : Type 0} (P : X → Type 0) (xs : List X) (k : ℕ) (x : X) → All P xs → slice_get xs k ≡ Some x → P x
at_one P [] k x h e = cc
at_one P (y ∷ xs) zero x h e = let same : y ≡ x = cc in subst P same (h zero y (omega arith))
at_one P (y ∷ xs) (suc k) x h e = at_one P xs k x (λ j d l. h (suc j) d (omega arith)) e

module _ (text : List ℕ) where
  abbrev pub InText : Finding → Type 0
  InText f = f.span.text ≡ text

  one : (f : Finding) → InText f → All InText (f ∷ [])
  one f h = All-cons InText f [] h (All-nil InText)

  of_each : {X : Type 0} (R : X → List Finding → Type 0) (P : X → Type 0) → ((x : X) (gs : List Finding) → P x → R x gs → All InText gs) → {xs : List X} {fs : List Finding} → Reports R xs fs → All P xs → All InText fs
  of_each R P f reports_none h = All-nil InText
  of_each R P f (reports_at {x = x} {xs = xs} {fs = fs} {gs = gs} r rs) h =
      All-append InText fs gs (f x fs (h zero x (omega arith)) r) (of_each R P f rs (λ k d l. h (suc k) d (omega arith)))

  pub its_span : (x : Spanned) → IsIn text x → (span_of x).text ≡ text
  its_span (Leaf s e) h = h
  its_span (One s f x) h = h.0
  its_span (Two s f x y) h = h.0

  last_in : (x : Spanned) → IsIn text x → IsIn text (last_alternative x)
  last_in (Leaf s e) h = h
  last_in (One s f x) h = h
  last_in (Two s Seq x y) h = h
  last_in (Two s Choice x y) h = h.2

  of_repeated : {g : Grammar} {subject : List ℕ} {place : Span} {e : Expression} {fs : List Finding} → OfRepeated g subject place e fs → place.text ≡ text → All InText fs
  of_repeated (never_fails d) h = one _ h
  of_repeated (takes_nothing a d) h = one _ h
  of_repeated (goes_on d) h = All-nil InText

  of_repetition : {g : Grammar} {x : Spanned} {fs : List Finding} → OfRepetition g x fs → IsIn text x → All InText fs
  of_repetition (repetition e d) h = of_repeated d h.0
  of_repetition (no_repetition e) h = All-nil InText

  of_choice : {g : Grammar} {x : Spanned} {fs : List Finding} → OfChoice g x fs → IsIn text x → All InText fs
  of_choice (unreachable {x = x} d) h = one _ (its_span (last_alternative x) (last_in x h.1))
  of_choice (reachable d) h = All-nil InText
  of_choice (no_choice e) h = All-nil InText

  of_skipped : {g : Grammar} {r : SpannedRule} {fs : List Finding} → OfSkipped g r fs → IsIn text r.body → All InText fs
  of_skipped (skipped {r = r} e d) h = of_repeated d (its_span r.body h)
  of_skipped (not_skipped e) h = All-nil InText

  -- all nodes of a body
  below : (x : Spanned) → IsIn text x → All (IsIn text) (postorder x)
  below (Leaf s e) h = All-cons (IsIn text) (Leaf s e) [] h (All-nil (IsIn text))
  below (One s f x) h = All-append (IsIn text) (postorder x) (One s f x ∷ []) (below x h.1) (All-cons (IsIn text) (One s f x) [] h (All-nil (IsIn text)))
  below (Two s f x y) h = All-append (IsIn text) (postorder x ++ postorder y) (Two s f x y ∷ []) (All-append (IsIn text) (postorder x) (postorder y) (below x h.1) (below y h.2))
      (All-cons (IsIn text) (Two s f x y) [] h (All-nil (IsIn text)))

  every : (rules : List SpannedRule) → AreIn text rules → All (IsIn text) (every_node rules)
  every [] are = All-nil (IsIn text)
  every (r ∷ rules) are = subst (All (IsIn text)) (sym (flat_map-cons (λ (q : SpannedRule). postorder q.body) r rules))
      (All-append (IsIn text) (postorder r.body) (every_node rules) (below r.body (are zero r (omega arith))) (every rules (λ k d l. are (suc k) d (omega arith))))

  -- what is found of tags
  of_all : {X : Type 0} (f : X → List Finding) (P : X → Type 0) → ((x : X) → P x → All InText (f x)) → (xs : List X) → All P xs → All InText (flat_map f xs)
  of_all f P each [] h = All-nil InText
  of_all f P each (x ∷ xs) h = subst (All InText) (sym (flat_map-cons f x xs))
      (All-append InText (f x) (flat_map f xs) (each x (h zero x (omega arith))) (of_all f P each xs (λ k d l. h (suc k) d (omega arith))))

  down : (x : Spanned) → IsIn text x → All (IsIn text) (preorder x)
  down (Leaf s e) h = All-cons (IsIn text) (Leaf s e) [] h (All-nil (IsIn text))
  down (One s f x) h = All-cons (IsIn text) (One s f x) (preorder x) h (down x h.1)
  down (Two s f x y) h = All-cons (IsIn text) (Two s f x y) (preorder x ++ preorder y) h (All-append (IsIn text) (preorder x) (preorder y) (down x h.1) (down y h.2))

  of_told : (place : Span) (message : Option (List ℕ)) → place.text ≡ text → All InText (told_at place message)
  of_told place None h = All-nil InText
  of_told place (Some message) h = one _ h

  tags_in : (g : Grammar) (body : Spanned) → IsIn text body → All InText (of_tags_in g body)
  tags_in g body h = of_all (of_tag g) (IsIn text) (λ x i. of_told (span_of x) (message_at g x) (its_span x i)) (preorder body) (down body h)

  module _ (rules : List SpannedRule) (are : AreIn text rules) where
    abbrev InCall : Option Closed → Type 0
    InCall None = ⊤
    InCall (Some z) = z.call.text ≡ text

    closes_in : {start : ℕ} {c : List ℕ} {v : Text} {x : Spanned} {o : Option Closed} → Walks rules start c v x o → IsIn text x → InCall o
    closes_in (walks_over e) h = tt
    closes_in (walks_closing m) h = h
    closes_in (walks_outside e) h = tt
    closes_in (walks_again m a b) h = tt
    closes_in (walks_into {k = k} {r = r} m a b at w) h = closes_in w (at_one (λ q. IsIn text q.body) rules k r are at)
    closes_in (walks_inside w) h = closes_in w h.1
    closes_in (walks_first w) h = closes_in w h.1
    closes_in (walks_second a p w) h = closes_in w h.2
    closes_in (walks_neither a b) h = tt
    closes_in (walks_other a w) h = closes_in w h.2

    of_recursion : {k : ℕ} {fs : List Finding} → OfRecursion rules k fs → All InText fs
    of_recursion (recursive {k = k} {r = r} at m w) = one _ (closes_in w (at_one (λ q. IsIn text q.body) rules k r are at))
    of_recursion (not_recursive at m w) = All-nil InText
    of_recursion (hidden at m) = All-nil InText

    found_in : (endless : List Span) (found : List Finding) → ArePiecesOf text endless → AreFound rules endless found → All InText found
    found_in endless found known f = subst (All InText) (sym f.all)
        (All-append InText f.repetitions _ (of_each (OfRepetition (rules_without_spans rules)) (IsIn text) (λ x gs h d. of_repetition d h) f.of_repetitions (every rules are))
        (All-append InText (map endless_at endless) _ (All-map InText endless_at endless known)
        (All-append InText f.choices _ (of_each (OfChoice (rules_without_spans rules)) (IsIn text) (λ x gs h d. of_choice d h) f.of_choices (every rules are))
        (All-append InText f.skips _ (of_each (OfSkipped (rules_without_spans rules)) (λ r. IsIn text r.body) (λ r gs h d. of_skipped d h) f.of_skips are)
        (All-append InText f.recursions (of_tags rules) (of_each (OfRecursion rules) (λ k. ⊤) (λ k gs h d. of_recursion d) f.of_recursions (λ k d l. tt))
        (of_all (λ r. of_tags_in (rules_without_spans rules) r.body) (λ r. IsIn text r.body) (λ r h. tags_in (rules_without_spans rules) r.body h) rules are))))))

    pub all_found_in : (endless : List Span) (sorted : List Finding) → ArePiecesOf text endless → AreAllFound rules endless sorted → All InText sorted
    all_found_in endless sorted known (found, f, order) = All-permutation InText found sorted order.same (found_in endless found known f)
