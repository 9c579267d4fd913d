use Rattle.std.proofs.Common.{refl}
use Rattle.front_reader.specs.Reading.{opt, rep, rep_once}
use Rattle.front_reader.proofs.Operators.{postfix_rule, opt_trees, rep_trees, rep_once_trees}
use Rattle.front_reader.proofs.rules.operators.times_of.Goals as goal

pub unreachable-requires : goal.unreachable-requires
unreachable-requires c =
    let n = c.in_default in
    postfix_rule c.args.operator.rule c.requires.shape refl n.not-optional_operator n.not-repeat_operator n.not-repeat_once_operator n.not-repeat_exact n.not-repeat_min n.not-repeat_max n.not-repeat_min_max

pub returns-in-optional_operator : goal.returns-in-optional_operator
returns-in-optional_operator c =
    let e = opt_trees (rw c.in-optional_operator.is at c.requires.shape) in
    (rw e refl, rw c.in-optional_operator.is opt)

pub returns-in-repeat_operator : goal.returns-in-repeat_operator
returns-in-repeat_operator c =
    let e = rep_trees (rw c.in-repeat_operator.is at c.requires.shape) in
    (rw e refl, rw c.in-repeat_operator.is rep)

pub returns-in-repeat_once_operator : goal.returns-in-repeat_once_operator
returns-in-repeat_once_operator c =
    let e = rep_once_trees (rw c.in-repeat_once_operator.is at c.requires.shape) in
    (rw e refl, rw c.in-repeat_once_operator.is rep_once)
