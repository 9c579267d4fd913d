-- The limit on steps counts the rules of a derivation, as the machine's steps do.
use Rattle.std.proofs.Common.{◌≡◌, refl, arith}
use Rattle.base_language.specs.Language.Expression.{Grammar}
use Rattle.base_language.specs.Language.State.{State, Outcome, Classes}
use Rattle.base_language.specs.Language.Meaning.{Does, Task, str, insens, range, slice, skip, call, other, pos_pred, neg_pred, push, restore, seq, seq_first, seq_second, left, right, opt, opt_none, rep_none, turn, turn_none, rep_exact, rep_max, rep_min_max, skips, atomic, compound_atomic, between, rep, rep_once, rep_min, push_literal, tag}
use Rattle.matcher_code.specs.Sizes.{size}
use Rattle.matcher_program.specs.Sizes as limit

pub same_size : {g : Grammar} {classes : Classes} {k : Task} {s : State} {o : Outcome} (d : Does g classes k s o)
    → size d ≡ limit.size d
same_size str = refl
same_size insens = refl
same_size range = refl
same_size slice = refl
same_size skip = refl
same_size (call h d) = omega (arith, same_size d)
same_size (other h b) = refl
same_size (pos_pred d) = omega (arith, same_size d)
same_size (neg_pred d) = omega (arith, same_size d)
same_size (push d) = omega (arith, same_size d)
same_size push_literal = refl
same_size (tag d) = omega (arith, same_size d)
same_size (restore d) = omega (arith, same_size d)
same_size (seq a k b) = omega (arith, same_size a, same_size k, same_size b)
same_size (seq_first a) = omega (arith, same_size a)
same_size (seq_second a k b) = omega (arith, same_size a, same_size k, same_size b)
same_size (left a) = omega (arith, same_size a)
same_size (right a b) = omega (arith, same_size a, same_size b)
same_size (opt a) = omega (arith, same_size a)
same_size (opt_none a) = omega (arith, same_size a)
same_size (rep a b) = omega (arith, same_size a, same_size b)
same_size (rep_none a) = omega (arith, same_size a)
same_size (turn k a b) = omega (arith, same_size k, same_size a, same_size b)
same_size (turn_none k a) = omega (arith, same_size k, same_size a)
same_size (rep_once d) = omega (arith, same_size d)
same_size (rep_exact d) = omega (arith, same_size d)
same_size (rep_min d) = omega (arith, same_size d)
same_size (rep_max d) = omega (arith, same_size d)
same_size (rep_min_max d) = omega (arith, same_size d)
same_size (skips d) = omega (arith, same_size d)
same_size atomic = refl
same_size compound_atomic = refl
same_size between = refl
