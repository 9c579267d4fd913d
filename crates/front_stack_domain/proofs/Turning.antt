-- Turns end where a start comes again or there is no ok; no limit beyond the number of stacks is met.
use Rattle.std.proofs.Common.{◌≡◌, inl, inr, ℕ, zero, suc, ◌+◌, ◌<◌, List, [], ◌∷◌, Bool, true, false, ◌&&◌, if◌then◌else◌, Option, Some, None, refl, sym, ap, subst, length, arith}
use Rattle.std.proofs.lemmas.Bool.{and_from, both_ways, or_left, or_right}
use Rattle.front_stack_domain.specs.Stack.{In, Base, Empty, Blank, Any, AbstractStack, bool_eq, base_eq, marks_eq, stack_eq, is_among}
use Rattle.front_stack_domain.specs.Reading.{Reading, Walk, turns}
use Rattle.front_stack_domain.specs.Reported.{turn_starts}
use Rattle.front_stack_domain.specs.Walks.{turned}
use Rattle.front_stack_domain.specs.Turns.{HasFewMarks, most_stacks, AreDistinct, KeepsFewMarks, TurnsEnd, no_ok, comes_again, goes_on}
use Rattle.front_stack_domain.proofs.Stacks.{among}
use Rattle.front_stack_domain.proofs.Counting.{stacks_are_few}
use Rattle.front_stack_domain.proofs.FewMarks.{FewWhere, few_where}

bool_itself : (b : Bool) → bool_eq b b ≡ true
bool_itself true = refl
bool_itself false = refl

base_itself : (b : Base) → base_eq b b ≡ true
base_itself Empty = refl
base_itself Blank = refl
base_itself Any = refl

marks_itself : (ms : List Bool) → marks_eq ms ms ≡ true
marks_itself [] = refl
marks_itself (m ∷ ms) = and_from (bool_eq m m) (marks_eq ms ms) (bool_itself m) (marks_itself ms)

pub stack_itself : (a : AbstractStack) → stack_eq a a ≡ true
stack_itself a = and_from (base_eq a.base a.base) (marks_eq a.marks a.marks && bool_eq a.intact a.intact) (base_itself a.base) (and_from (marks_eq a.marks a.marks) (bool_eq a.intact a.intact) (marks_itself a.marks) (bool_itself a.intact))

pub is_in : (bs : List AbstractStack) (a : AbstractStack) → In a bs → is_among bs a ≡ true
is_in [] a i = absurd i
is_in (b ∷ bs) a (inl e) = or_left (stack_eq a b) (is_among bs a) (subst (λ x. stack_eq a x ≡ true) e (stack_itself a))
is_in (b ∷ bs) a (inr i) = or_right (stack_eq a b) (is_among bs a) (is_in bs a i)

module _ (limit : ℕ) (step : AbstractStack → Reading) (keeps : KeepsFewMarks step) where
  end_of_turns : (k : ℕ) (seen : List AbstractStack) (q : Option AbstractStack) (w : Walk)
      → ((a : AbstractStack) → In a seen → HasFewMarks a) → AreDistinct seen → FewWhere q → most_stacks < k + length seen
      → TurnsEnd step seen q w (turn_starts step k seen q) (turns limit step k seen q w)
  unfolding turns turn_starts
  end_of_turns zero seen q w few d h n = let m = stacks_are_few seen few d in absurd (omega arith)
  end_of_turns (suc k) seen None w few d h n = no_ok
  end_of_turns (suc k) seen (Some a) w few d h n =
      go (is_among seen a) refl (λ new. end_of_turns k (a ∷ seen) (step a).ok (turned a (step a) w) with_it (new, d) (few_where (step a).ok (λ b e. keeps.ok a b h e)) (omega arith))
    where
      with_it : (b : AbstractStack) → In b (a ∷ seen) → HasFewMarks b
      with_it b (inl e) = subst HasFewMarks (sym e) h
      with_it b (inr i) = few b i

      Next : Type 0
      Next = TurnsEnd step (a ∷ seen) (step a).ok (turned a (step a) w) (turn_starts step k (a ∷ seen) (step a).ok) (turns limit step k (a ∷ seen) (step a).ok (turned a (step a) w))

      go : (b : Bool) → is_among seen a ≡ b → ((In a seen → ⊥) → Next)
          → TurnsEnd step seen (Some a) w (if b then [] else a ∷ turn_starts step k (a ∷ seen) (step a).ok) (if b then w else turns limit step k (a ∷ seen) (step a).ok (turned a (step a) w))
      go true e f = comes_again (among seen a e)
      go false e f = let new : In a seen → ⊥ = λ i. both_ways (is_among seen a) e (is_in seen a i) in goes_on new (f new)

  pub turns_end : (a : AbstractStack) (w : Walk) → HasFewMarks a → most_stacks < limit
      → TurnsEnd step [] (Some a) w (turn_starts step limit [] (Some a)) (turns limit step limit [] (Some a) w)
  turns_end a w h n = end_of_turns limit [] (Some a) w (λ b i. absurd i) tt h (omega arith)

-- turns end in one way
pub one_end : (step : AbstractStack → Reading) {seen : List AbstractStack} {q : Option AbstractStack} {w v u : Walk} {ss ts : List AbstractStack}
    → TurnsEnd step seen q w ss v → TurnsEnd step seen q w ts u → (ss ≡ ts) × (v ≡ u)
one_end step no_ok no_ok = (refl, refl)
one_end step (comes_again i) (comes_again j) = (refl, refl)
one_end step (comes_again i) (goes_on n e) = absurd (n i)
one_end step (goes_on n e) (comes_again i) = absurd (n i)
one_end step (goes_on {a = a} n d) (goes_on m e) = let p = one_end step d e in (ap (λ l. a ∷ l) p.0, p.1)

-- steps that agree wherever they lead end turns in one way
pub same_end : (step other : AbstractStack → Reading) → KeepsFewMarks step → ((a : AbstractStack) → HasFewMarks a → step a ≡ other a)
    → {seen : List AbstractStack} {q : Option AbstractStack} {w v : Walk} {ss : List AbstractStack}
    → TurnsEnd step seen q w ss v → FewWhere q → TurnsEnd other seen q w ss v
same_end step other keeps same no_ok h = no_ok
same_end step other keeps same (comes_again i) h = comes_again i
same_end step other keeps same (goes_on {seen = seen} {starts = ss} {a = a} {w = w} {v = v} n e) h =
    goes_on n (subst (λ r. TurnsEnd other (a ∷ seen) r.ok (turned a r w) ss v) (same a h)
    (same_end step other keeps same e (few_where (step a).ok (λ b k. keeps.ok a b h k))))
