use Rattle.std.proofs.Common.{arith, sym, ◌≤◌, get_or}
use Rattle.std.proofs.Math.ListN.{get_or-eq_default}
use Rattle.matcher_code.specs.declared.code.Op.TheVariants as op
use Rattle.matcher_code.specs.Operations.{kinds}
use Rattle.matcher_code.proofs.operations.op_of.Goals as goal

-- no kind has a number above 33
pub returns-in_default : goal.returns-in_default
returns-in_default c =
    let words = c.args.words in
    let past : 34 ≤ get_or words 0 0 = omega arith in
    let all = kinds (get_or words 1 0) (get_or words 2 0) (get_or words 3 0) (get_or words 4 0) in
    sym (get_or-eq_default all op.Lose past)
