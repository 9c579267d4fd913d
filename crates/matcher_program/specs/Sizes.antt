-- How large a derivation is, and how many steps a machine takes for it at most.
use Rattle.std.specs.Prelude.{ℕ, ◌+◌, ◌*◌}
use Rattle.base_language.specs.Language.Expression.{Grammar}
use Rattle.base_language.specs.Language.State.{State, Outcome, Classes}
use Rattle.base_language.specs.Language.Meaning.{Does, Task, str, insens, range, slice, skip, call, other, pos_pred, neg_pred, push, restore, seq, seq_first, seq_second, left, right, opt, opt_none, rep_none, turn, turn_none, rep_exact, rep_max, rep_min_max, skips, atomic, compound_atomic, between, rep, rep_once, rep_min, push_literal, tag}

-- how many times a derivation applies a rule of the relation of matching
abbrev pub size : {g : Grammar} {classes : Classes} {k : Task} {s : State} {o : Outcome}
    → Does g classes k s o → ℕ
size str = 1
size insens = 1
size range = 1
size slice = 1
size skip = 1
size (call h d) = 1 + size d
size (other h b) = 1
size (pos_pred d) = 1 + size d
size (neg_pred d) = 1 + size d
size (push d) = 1 + size d
size push_literal = 1
size (tag d) = 1 + size d
size (restore d) = 1 + size d
size (seq a k b) = 1 + (size a + (size k + size b))
size (seq_first a) = 1 + size a
size (seq_second a k b) = 1 + (size a + (size k + size b))
size (left a) = 1 + size a
size (right a b) = 1 + (size a + size b)
size (opt a) = 1 + size a
size (opt_none a) = 1 + size a
size (rep a b) = 1 + (size a + size b)
size (rep_none a) = 1 + size a
size (turn k a b) = 1 + (size k + (size a + size b))
size (turn_none k a) = 1 + (size k + size a)
size (rep_once d) = 1 + size d
size (rep_exact d) = 1 + size d
size (rep_min d) = 1 + size d
size (rep_max d) = 1 + size d
size (rep_min_max d) = 1 + size d
size (skips d) = 1 + size d
size atomic = 1
size compound_atomic = 1
size between = 1

-- two steps for each: one begins with it, and one takes its answer
abbrev pub most_steps : {g : Grammar} {classes : Classes} {k : Task} {s : State} {o : Outcome}
    → Does g classes k s o → ℕ
most_steps d = 2 * size d
