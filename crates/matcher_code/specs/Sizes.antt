-- The size of a derivation, and how many steps its task takes.
use Rattle.std.specs.Prelude.{ℕ, ◌+◌}
use Rattle.base_language.specs.Language.Expression.{Grammar}
use Rattle.base_language.specs.Language.State.{State, Outcome, Classes}
use Rattle.base_language.specs.Language.Meaning.{Does, Run, Skipping, Task, Turns, str, insens, range, slice, skip, call, other, pos_pred, neg_pred, push, restore, seq, seq_first, seq_second, left, right, opt, opt_none, rep_none, turn, turn_none, rep_exact, rep_max, rep_min_max, skips, atomic, compound_atomic, between, rep, rep_once, rep_min, push_literal, tag}

-- the number of rules of the relation of matching that a derivation applies
abbrev pub size : {g : Grammar} {classes : Classes} {k : Task} {s : State} {o : Outcome}
    → Does g classes k s o → ℕ
size str = 1
size insens = 1
size range = 1
size slice = 1
size skip = 1
size (call h d) = 1 + size d
size (other h b) = 1
size (pos_pred d) = 1 + size d
size (neg_pred d) = 1 + size d
size (push d) = 1 + size d
size push_literal = 1
size (tag d) = 1 + size d
size (restore d) = 1 + size d
size (seq a k b) = 1 + (size a + (size k + size b))
size (seq_first a) = 1 + size a
size (seq_second a k b) = 1 + (size a + (size k + size b))
size (left a) = 1 + size a
size (right a b) = 1 + (size a + size b)
size (opt a) = 1 + size a
size (opt_none a) = 1 + size a
size (rep a b) = 1 + (size a + size b)
size (rep_none a) = 1 + size a
size (turn k a b) = 1 + (size k + (size a + size b))
size (turn_none k a) = 1 + (size k + size a)
size (rep_once d) = 1 + size d
size (rep_exact d) = 1 + size d
size (rep_min d) = 1 + size d
size (rep_max d) = 1 + size d
size (rep_min_max d) = 1 + size d
size (skips d) = 1 + size d
size atomic = 1
size compound_atomic = 1
size between = 1

-- an expression takes at least one step, and so do turns of a repetition
abbrev pub least_steps : Task → ℕ
least_steps (Run m e) = 1
least_steps (Turns m e) = 1
least_steps (Skipping m) = 0
