use Rattle.lint_patterns.proofs.Meanings.{matches_more}
use Rattle.lint_patterns.proofs.laws.rewritten_lists_match_more.Goals as goal

pub returns : goal.returns
returns c = λ g classes x y m s t u v w us vs ws xs first blanks second more none.
    matches_more g classes x y m s t u v w us vs ws xs first blanks second more none
