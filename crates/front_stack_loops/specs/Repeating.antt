-- Repetitions whose copies or turns are being followed.
use Rattle.std.specs.Prelude.{◌≡◌, ℕ, ◌+◌, ◌*◌, ◌<◌, ◌^◌, Bool, true, false, Option, reverse, if◌then◌else◌}
use Rattle.front_stack_domain.specs.Stack.{AbstractStack}
use Rattle.front_stack_domain.specs.Reading as says
use Rattle.front_stack_domain.specs.Reading.{turns, walk}
use Rattle.front_stack_domain.specs.Views.{walk_of}
use Rattle.front_stack_domain.specs.Walks.{ended}
use Rattle.front_stack_loops.specs.Memory.{Meaning}
use Rattle.front_stack_loops.specs.Following.{IsRun, copy_step, seen_stacks}
use Rattle.front_stack_loops.specs.Table.{copies}
use Rattle.front_stack_loops.specs.declared.table.Table.{Table}
use Rattle.front_stack_loops.specs.declared.copies.Copies.{Copies}
use Rattle.front_stack_loops.specs.declared.copies.Turns.{Turns}

-- the reading of a repetition from a stack, once its copies are followed to a walk; the copies that are
-- left follow
abbrev pub copied_reading : Table → Meaning → Copies → AbstractStack → says.Walk → says.Reading
copied_reading t meaning c a w =
    ended a c.alone (walk t.limit (meaning c.body) (copies c.required c.optional c.endless) w)

-- once its turns are followed to a walk, and the next one starts there, if it does
abbrev pub turned_reading :
    Table → Meaning → Turns → AbstractStack → Option AbstractStack → says.Walk → says.Reading
turned_reading t meaning u a q w =
    ended a u.alone (turns t.limit (meaning u.body) u.left (reverse (seen_stacks u.seen.items)) q w)

-- how often what is repeated may still be read
abbrev pub copies_left : Table → Copies → ℕ
copies_left t c = c.required + (c.optional + (if c.endless then t.limit else 0))

-- and never more often for one reading of the repetition
abbrev pub most_readings : Table → ℕ
most_readings t = 2 * 2 ^ 32 + t.limit

-- copies of a kind lead to a walk, and the trace has them one by one; optional copies come last
pub record HasTrace (t : Table) (meaning : Meaning) (c : Copies) (required : Bool) (w : says.Walk)
    : Type 0 where
  pub start : says.Walk
  pub run : IsRun (copy_step t meaning c.body required) start c.trace.items w
  pub last : required ≡ false → c.required ≡ 0

-- the copies that were followed lead to this reading of the whole, and those of the kind that comes next have
-- a trace
pub record CopiesLead (t : Table) (meaning : Meaning) (c : Copies) (a : AbstractStack) (whole : says.Reading)
    : Type 0 where
  pub made : copied_reading t meaning c a (walk_of c.walk) ≡ whole
  pub required : 0 < c.required → HasTrace t meaning c true (walk_of c.walk)
  pub optional : c.required ≡ 0 → HasTrace t meaning c false (walk_of c.walk)

-- so do the turns
abbrev pub TurnsLead :
    Table → Meaning → Turns → AbstractStack → Option AbstractStack → says.Reading → Type 0
TurnsLead t meaning u a q whole = turned_reading t meaning u a q (walk_of u.walk) ≡ whole
