-- Turns of a repetition without a greatest number, followed without any limit.
use Rattle.std.specs.Prelude.{◌≡◌, ℕ, ◌*◌, ◌≤◌, List, [], ◌∷◌, length, Option, Some, None, ⊤}
use Rattle.front_stack_domain.specs.Stack.{AbstractStack, In}
use Rattle.front_stack_domain.specs.Reading.{Reading, Walk}
use Rattle.front_stack_domain.specs.Walks.{turned}

-- eight marks at most, as the first stack of a rule's body has, and so every one that its reading comes to
abbrev pub HasFewMarks : AbstractStack → Type 0
HasFewMarks a = length a.marks ≤ 8

-- the number of stacks with at most eight marks: three bases, 511 lists of marks, and the flag
abbrev pub most_stacks : ℕ
most_stacks = 3 * 511 * 2

-- the elements of the list are distinct
abbrev pub AreDistinct : List AbstractStack → Type 0
AreDistinct [] = ⊤
AreDistinct (a ∷ bs) = (In a bs → ⊥) × AreDistinct bs

-- a step from stacks with eight marks at most leads to such stacks
pub record KeepsFewMarks (step : AbstractStack → Reading) : Type 0 where
  pub ok : (a b : AbstractStack) → HasFewMarks a → (step a).ok ≡ Some b → HasFewMarks b
  pub err : (a b : AbstractStack) → HasFewMarks a → (step a).err ≡ Some b → HasFewMarks b

module _ (step : AbstractStack → Reading) where
  -- turns from one ok to the next, until a start comes again or there is no ok; after those from the stacks
  -- `seen`, turns start from a list of stacks, and the walk comes to another
  pub data TurnsEnd : List AbstractStack → Option AbstractStack → Walk → List AbstractStack → Walk
      → Type 0 where
    no_ok : {seen : List AbstractStack} {w : Walk} → TurnsEnd seen None w [] w
    comes_again : {seen : List AbstractStack} {a : AbstractStack} {w : Walk} → In a seen
        → TurnsEnd seen (Some a) w [] w
    goes_on : {seen starts : List AbstractStack} {a : AbstractStack} {w v : Walk}
        → (In a seen → ⊥) → TurnsEnd (a ∷ seen) (step a).ok (turned a (step a) w) starts v
        → TurnsEnd seen (Some a) w (a ∷ starts) v
