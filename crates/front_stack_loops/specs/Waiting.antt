-- Nodes that wait for the reading of an operand.
use Rattle.std.specs.Prelude.{◌≡◌, ℕ, zero, suc, ◌+◌, ◌*◌, ◌<◌, ◌≤◌, List, [], ◌∷◌, ◌++◌, Bool, true, false, length, ⊤}
use Rattle.front_stack_domain.specs.Stack.{AbstractStack}
use Rattle.front_stack_domain.specs.Reading as says
use Rattle.front_stack_domain.specs.Reading.{from, ahead_reading, not_ahead_reading, opt_reading, pushed_reading, seq_reading, choice_reading}
use Rattle.front_stack_domain.specs.Views.{reading_of, stack_of, walk_of}
use Rattle.front_stack_domain.specs.Walks.{ended, next_after, stepped, turned}
use Rattle.front_stack_loops.specs.Memory.{Meaning, IsRight}
use Rattle.front_stack_loops.specs.Repeating.{HasTrace, copied_reading, copies_left, most_readings, turned_reading}
use Rattle.front_stack_loops.specs.Table.{IsMeaning, level, nodes_of}
use Rattle.front_stack_domain.specs.declared.stack.Stack.{Stack}
use Rattle.front_stack_domain.specs.declared.reading.Reading.{Reading}
use Rattle.front_stack_loops.specs.declared.copies.Copies.{Copies}
use Rattle.front_stack_loops.specs.declared.memory.Memory.{Memory}
use Rattle.front_stack_loops.specs.declared.table.Table.{Table}
use Rattle.front_stack_loops.specs.declared.waiting.Awaited.{Awaited}
use Rattle.front_stack_loops.specs.declared.waiting.Awaited.TheVariants as awaits
use Rattle.front_stack_loops.specs.declared.waiting.How.{How}
use Rattle.front_stack_loops.specs.declared.waiting.How.TheVariants as how
use Rattle.front_stack_loops.specs.declared.waiting.ReadTask.{ReadTask}
use Rattle.front_stack_loops.specs.declared.waiting.ReadTask.TheVariants as next
use Rattle.front_stack_loops.specs.declared.waiting.Waiting.{Waiting}

-- of a choice or a sequence, from the readings of both parts
abbrev pub both_reading : Bool → Bool → AbstractStack → says.Reading → says.Reading → says.Reading
both_reading true skips a r q = choice_reading a r q
both_reading false skips a r q = seq_reading skips a r q

-- of a node, from that of its last operand
abbrev pub whole_of : How → Bool → AbstractStack → says.Reading → says.Reading
whole_of how.Same skips a r = r
whole_of how.Ahead skips a r = ahead_reading a r
whole_of how.NotAhead skips a r = not_ahead_reading a r
whole_of how.Optional skips a r = opt_reading a r
whole_of how.Pushed skips a r = pushed_reading r
whole_of (how.Both before choice) skips a r = both_reading choice skips a (reading_of before) r

-- of a node, from that of the operand that it waits for
abbrev pub filled : Table → Meaning → Awaited → AbstractStack → says.Reading → says.Reading
filled t meaning (awaits.First second choice) a r =
    both_reading choice t.skips a r (from (next_after choice r a) (meaning second))
filled t meaning (awaits.Last h) a r = whole_of h t.skips a r
filled t meaning (awaits.Copy c required s) a r =
    copied_reading t meaning c a (stepped required (stack_of s) r (walk_of c.walk))
filled t meaning (awaits.Turn u s) a r =
    turned_reading t meaning u a r.ok (turned (stack_of s) r (walk_of u.walk))

-- past a copy that is waited for, the copies of its kind have a trace
abbrev pub IsTraced : Table → Meaning → Awaited → says.Reading → Type 0
IsTraced t meaning (awaits.First second choice) r = ⊤
IsTraced t meaning (awaits.Last h) r = ⊤
IsTraced t meaning (awaits.Copy c required s) r =
    HasTrace t meaning c required (stepped required (stack_of s) r (walk_of c.walk))
IsTraced t meaning (awaits.Turn u s) r = ⊤

-- the reading that is waited for leads to that of the whole
pub record Fills (t : Table) (meaning : Meaning) (awaited : Awaited) (a : AbstractStack)
    (r whole : says.Reading) : Type 0 where
  pub made : filled t meaning awaited a r ≡ whole
  pub traced : IsTraced t meaning awaited r

-- the current reading is what the innermost node waits for, the last one, and every other node waits for
-- the reading of the next one; the first one has this reading
abbrev pub Lead : Table → Meaning → List Waiting → says.Reading → says.Reading → Type 0
Lead t meaning [] whole r = r ≡ whole
Lead t meaning (w ∷ ws) whole r =
    (inner : says.Reading) × (meaning w.node (stack_of w.stack) ≡ whole)
    × Fills t meaning w.awaited (stack_of w.stack) inner whole × Lead t meaning ws inner r

-- the reading that the next task gives
abbrev pub next_reading : Meaning → ReadTask → says.Reading
next_reading meaning (next.Read node s) = meaning node (stack_of s)
next_reading meaning (next.Done r) = reading_of r

-- how much there is to do for a node of a level: more than for two of lower levels, or for a given number of
-- readings of one of them
unfoldable pub effort : ℕ → ℕ → ℕ
effort readings zero = 3
effort readings (suc n) = (readings + 3) * (effort readings n + 1)

abbrev pub effort_of : Table → ℕ → ℕ
effort_of t node = effort (most_readings t) (level t node)

-- for a given number of readings of a node, and what they lead to
abbrev pub effort_times : Table → ℕ → ℕ → ℕ
effort_times t node n = n * (effort_of t node + 1)

abbrev pub effort_next : Table → ReadTask → ℕ
effort_next t (next.Read node s) = effort_of t node
effort_next t (next.Done r) = 0

abbrev pub effort_awaited : Table → Awaited → ℕ
effort_awaited t (awaits.First second choice) = 2 + effort_of t second
effort_awaited t (awaits.Last h) = 1
effort_awaited t (awaits.Copy c required s) = 1 + effort_times t c.body (copies_left t c)
effort_awaited t (awaits.Turn u s) = 1 + effort_times t u.body u.left

abbrev pub effort_waiting : Table → List Waiting → ℕ
effort_waiting t [] = 0
effort_waiting t (w ∷ ws) = effort_awaited t w.awaited + effort_waiting t ws

-- a node of the table, no higher than a level
pub record IsLow (t : Table) (l node : ℕ) : Type 0 where
  pub within : node < length (nodes_of t)
  pub low : level t node ≤ l

abbrev pub IsNextLow : Table → ℕ → ReadTask → Type 0
IsNextLow t l (next.Read node s) = IsLow t l node
IsNextLow t l (next.Done r) = ⊤

abbrev pub IsAwaitedLow : Table → ℕ → Awaited → Type 0
IsAwaitedLow t l (awaits.First second choice) = IsLow t l second
IsAwaitedLow t l (awaits.Last h) = ⊤
IsAwaitedLow t l (awaits.Copy c required s) = IsLow t l c.body
IsAwaitedLow t l (awaits.Turn u s) = IsLow t l u.body

abbrev pub AreLow : Table → ℕ → List Waiting → Type 0
AreLow t l [] = ⊤
AreLow t l (w ∷ ws) = IsAwaitedLow t l w.awaited × AreLow t l ws

-- a step was done; the current task leads to the same reading of the whole, and less is left to do
pub record ReadsOn (t : Table) (old new : Memory) (p : ReadTask) (ws vs : List Waiting) (q : ReadTask)
    : Type 0 where
  pub right : (meaning : Meaning) → IsMeaning t meaning → IsRight meaning old → (whole : says.Reading)
      → Lead t meaning ws whole (next_reading meaning p)
      → IsRight meaning new × Lead t meaning vs whole (next_reading meaning q)
  pub less : effort_next t q + effort_waiting t vs < effort_next t p + effort_waiting t ws
  pub low : (l : ℕ) → IsNextLow t l p → AreLow t l ws → IsNextLow t l q × AreLow t l vs

-- a node waits for an operand, which is read next
pub record IsPut (ws vs : List Waiting) (node : ℕ) (s : Stack) (a : Awaited) (operand : ℕ) (q : ReadTask)
    : Type 0 where
  pub items : vs ≡ ws ++ record { node = node; stack = s; awaited = a } ∷ []
  pub next : q ≡ next.Read operand s

-- a repetition goes on, of which this is known; the current task leads to its reading, and at most a given
-- number of readings of its body are left to do
pub record GoesOn (t : Table) (old new : Memory) (node : ℕ) (s : Stack) (Known : Meaning → Type 0)
    (body readings : ℕ) (ws vs : List Waiting) (q : ReadTask) : Type 0 where
  pub right : (meaning : Meaning) → IsMeaning t meaning → IsRight meaning old → Known meaning
      → (whole : says.Reading) → Lead t meaning ws whole (meaning node (stack_of s))
      → IsRight meaning new × Lead t meaning vs whole (next_reading meaning q)
  pub less : effort_next t q + effort_waiting t vs ≤ effort_times t body readings + effort_waiting t ws
  pub low : (l : ℕ) → IsLow t l body → AreLow t l ws → IsNextLow t l q × AreLow t l vs

-- a repetition goes on with the reading that it waited for
abbrev pub Resumes : Table → Memory → Memory → ℕ → Stack → Awaited → Reading → ℕ → ℕ → List Waiting
    → List Waiting → ReadTask → Type 0
Resumes t old new node s awaited r body readings ws vs q = GoesOn t old new node s
    (λ meaning. Fills t meaning awaited (stack_of s) (reading_of r) (meaning node (stack_of s)))
    body readings ws vs q

-- a repetition waits for a copy; c has the copies that are left
pub record AwaitsCopy (ws vs : List Waiting) (node : ℕ) (s : Stack) (c : Copies) (required : Bool)
    (from : Stack) (q : ReadTask) : Type 0 where
  pub copies : Copies
  pub items : vs ≡ ws ++ record { node = node; stack = s; awaited = awaits.Copy copies required from } ∷ []
  pub same : copies ≡ record c { trace = copies.trace }
  pub trace : copies.trace.items ≡ c.trace.items ++ c.walk ∷ []
  pub next : q ≡ next.Read c.body from

-- the reading of a repetition is there, and was remembered
pub record EndsWith (old new : Memory) (node : ℕ) (s : Stack) (alone : Bool) (w : says.Walk) (q : ReadTask)
    : Type 0 where
  pub reading : Reading
  pub next : q ≡ next.Done reading
  pub value : reading_of reading ≡ ended (stack_of s) alone w
  pub kept : (meaning : Meaning) → IsRight meaning old → reading_of reading ≡ meaning node (stack_of s)
      → IsRight meaning new
