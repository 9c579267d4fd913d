-- What a list and its listing match.
use Rattle.std.proofs.Common.{◌≡◌}
use Rattle.base_language.specs.Language.Expression.{Expression, Grammar, Seq, Rep}
use Rattle.base_language.specs.Language.Meaning.{Does, Matches, Skipping, seq, seq_first, seq_second, rep, rep_none, turn_none}
use Rattle.base_language.specs.Language.State.{Classes, Mode, State, Trees, Success, Failure}

pub matches_more : (g : Grammar) (classes : Classes) (x y : Expression) (m : Mode) (s t u v w : State) (us vs ws xs : Trees)
    → Matches g classes x m s (Success t us) → Does g classes (Skipping m) t (Success u vs)
    → Matches g classes y m u (Success v ws) → Does g classes (Skipping m) v (Success w xs)
    → Matches g classes x m w Failure
    → Matches g classes (Seq (Rep (Seq x y)) x) m s Failure × (o : State) × (zs : Trees) × Matches g classes (Seq x (Rep (Seq y x))) m s (Success o zs)
matches_more g classes x y m s t u v w us vs ws xs first blanks second more none = (
  seq_second (rep (seq first blanks second) (turn_none more (seq_first none))) more none,
  _,
  _,
  seq first blanks (rep_none (seq_second second more none)),
)
