use Rattle.pest_meta.proofs.Spelled.{flawed_give_none, not_both, trees_once, trees_or_fails}
use Rattle.pest_meta.proofs.laws.one_kind_of_answer.Goals as goal

pub returns-clause-trees : goal.returns-clause-trees
returns-clause-trees c = trees_once

pub returns-clause-syntax : goal.returns-clause-syntax
returns-clause-syntax c = trees_or_fails

pub returns-clause-flaws : goal.returns-clause-flaws
returns-clause-flaws c = flawed_give_none

pub returns-clause-exclusive : goal.returns-clause-exclusive
returns-clause-exclusive c = not_both
