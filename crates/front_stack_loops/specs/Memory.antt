-- Memoized readings, and answers that they give.
use Rattle.std.specs.Prelude.{◌≡◌, ℕ, Some, Bool, true, false, nat_eq}
use Rattle.std.specs.HashMap.{get}
use Rattle.front_stack_domain.specs.Stack.{AbstractStack}
use Rattle.front_stack_domain.specs.Reading as says
use Rattle.front_stack_domain.specs.Reading.{Copy, Required, Optional, onward, turns}
use Rattle.front_stack_loops.specs.Apart.{AreMovable}
use Rattle.front_stack_loops.specs.Table.{IsMeaning}
use Rattle.front_stack_domain.specs.Views.{stack_of, reading_of, walk_of}
use Rattle.front_stack_loops.specs.Keys.{key_of}
use Rattle.front_stack_domain.specs.declared.stack.Stack.{Stack}
use Rattle.front_stack_domain.specs.declared.reading.Reading.{Reading}
use Rattle.front_stack_domain.specs.declared.reading.Walk.{Walk}
use Rattle.front_stack_loops.specs.declared.table.Table.{Table}
use Rattle.front_stack_loops.specs.declared.memory.Memory.{Memory}

-- the reading of every node, by index, from every stack
abbrev pub Meaning : Type 0
Meaning = ℕ → AbstractStack → says.Reading

-- the memoized readings are those of `meaning`, and the nodes flagged as independent of the stack are so
pub record IsRight (meaning : Meaning) (m : Memory) : Type 0 where
  pub known : (k : ℕ) (r : Reading) → get nat_eq m.known k ≡ Some r → (node : ℕ) (s : Stack)
      → key_of node s ≡ k → reading_of r ≡ meaning node (stack_of s)
  pub movable : AreMovable meaning m.apart.items

-- the answer is this, and the memoized readings stay right
pub record AnswersRightly {A B : Type 0} (view : A → B) (wanted : Meaning → B) (t : Table) (old new : Memory)
    (x : A) : Type 0 where
  pub value : (meaning : Meaning) → IsMeaning t meaning → IsRight meaning old → view x ≡ wanted meaning
  pub kept : (meaning : Meaning) → IsMeaning t meaning → IsRight meaning old → IsRight meaning new

-- a node was read
abbrev pub ReadsNode : Table → Memory → Memory → ℕ → AbstractStack → Reading → Type 0
ReadsNode t old new node a r = AnswersRightly reading_of (λ meaning. meaning node a) t old new r

abbrev pub copy_of : Bool → Copy
copy_of true = Required
copy_of false = Optional

-- one copy was followed
abbrev pub Steps : Table → Memory → Memory → ℕ → Bool → says.Walk → Walk → Type 0
Steps t old new node required w v = AnswersRightly walk_of (λ meaning. onward t.limit (meaning node)
    (copy_of required) w.here w) t old new v
