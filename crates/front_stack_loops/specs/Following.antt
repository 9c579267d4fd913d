-- Copies and turns followed by the code.
use Rattle.std.specs.Prelude.{◌≡◌, ℕ, zero, suc, ◌+◌, ◌<◌, List, [], Some, Bool, slice_get, map, length}
use Rattle.front_stack_domain.specs.Stack.{AbstractStack}
use Rattle.front_stack_domain.specs.Reading as says
use Rattle.front_stack_domain.specs.Reading.{Endless, onward}
use Rattle.front_stack_loops.specs.Table.{IsMeaning}
use Rattle.front_stack_loops.specs.Memory.{Meaning, IsRight, copy_of}
use Rattle.front_stack_domain.specs.Reported.{turn_starts}
use Rattle.front_stack_domain.specs.Views.{stack_of, walk_of}
use Rattle.front_stack_domain.specs.declared.stack.Stack.{Stack}
use Rattle.front_stack_domain.specs.declared.reading.Walk.{Walk}
use Rattle.front_stack_loops.specs.declared.table.Table.{Table}
use Rattle.front_stack_loops.specs.declared.memory.Memory.{Memory}

-- f applied n times
abbrev pub times : {A : Type 0} → ℕ → (A → A) → A → A
times zero f a = a
times (suc n) f a = times n f (f a)

abbrev pub seen_stacks : List Stack → List AbstractStack
seen_stacks ss = map stack_of ss

-- the walk with index j in a list is this one
pub record IsWalkAt (ws : List Walk) (w : says.Walk) (j : ℕ) : Type 0 where
  pub walk : Walk
  pub at : slice_get ws j ≡ Some walk
  pub same : walk_of walk ≡ w

-- one copy more, one turn more
abbrev pub copy_step : Table → Meaning → ℕ → Bool → says.Walk → says.Walk
copy_step t meaning body required w = onward t.limit (meaning body) (copy_of required) w.here w

-- these are the walks from which the copies start, every walk at the index of its first copy
pub record IsTrace (f : says.Walk → says.Walk) (n : ℕ) (w : says.Walk) (items : List Walk) : Type 0 where
  pub each : (j : ℕ) (v : Walk) → slice_get items j ≡ Some v → (walk_of v ≡ times j f w) × (j < n)
  pub all : (i : ℕ) → i < n → (j : ℕ) × IsWalkAt items (times i f w) j

-- the list has the walks start, f start, f (f start), .. one by one, and w is the next of them
pub record IsRun (f : says.Walk → says.Walk) (start : says.Walk) (items : List Walk) (w : says.Walk)
    : Type 0 where
  pub each : (j : ℕ) (v : Walk) → slice_get items j ≡ Some v → walk_of v ≡ times j f start
  pub here : w ≡ times (length items) f start

-- the walk v is reached from w after `left` more copies, whatever run led to w
pub record IsForeseen (items : List Walk) (w : says.Walk) (left : ℕ) (v : Walk) : Type 0 where
  pub value : (f : says.Walk → says.Walk) (start : says.Walk) → IsRun f start items w
      → walk_of v ≡ times left f w
  pub trace : (f : says.Walk → says.Walk) (start : says.Walk) → IsRun f start items w
      → IsTrace f (length items + left) start items

-- a given number of copies were followed
pub record Follows (t : Table) (old new : Memory) (body : ℕ) (required : Bool) (count : ℕ) (w : says.Walk)
    (items : List Walk) (v : Walk) : Type 0 where
  pub value : (meaning : Meaning) → IsMeaning t meaning → IsRight meaning old → walk_of v
      ≡ times count (copy_step t meaning body required) w
  pub kept : (meaning : Meaning) → IsMeaning t meaning → IsRight meaning old → IsRight meaning new
  pub trace : (meaning : Meaning) → IsMeaning t meaning → IsRight meaning old
      → IsTrace (copy_step t meaning body required) count w items

-- turns without end were followed
pub record Turned (t : Table) (old new : Memory) (body : ℕ) (w : says.Walk) (items : List Stack)
    (v : Walk) : Type 0 where
  pub value : (meaning : Meaning) → IsMeaning t meaning → IsRight meaning old → walk_of v
      ≡ onward t.limit (meaning body) Endless w.here w
  pub kept : (meaning : Meaning) → IsMeaning t meaning → IsRight meaning old → IsRight meaning new
  pub starts : (meaning : Meaning) → IsMeaning t meaning → IsRight meaning old → seen_stacks items
      ≡ turn_starts (meaning body) t.limit [] w.here
