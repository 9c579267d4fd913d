use Rattle.std.proofs.Common.{◌≡◌, ◌∙◌, ◌<◌, [], ap, arith, get_or, length, sym}
use Rattle.std.proofs.lemmas.Grind.{common_steps}
use Rattle.std.proofs.lemmas.List.{get_or-map}
use Rattle.matcher_code.specs.Operations.{op_in}
use Rattle.matcher_code.specs.declared.code.Op.TheVariants as op
use Rattle.matcher_code.proofs.bytecode.find_op.Goals as goal

pub returns-in-Some : goal.returns-in-Some
returns-in-Some c =
    let ops = c.args.code.now.ops.now in
    let h : c.args.pc < length ops = grind (arith, common_steps) in
    let e : c.in-Some.piece.now ≡ get_or ops c.args.pc [] = grind (arith, common_steps) in
    get_or-map op_in ops c.args.pc [] op.Lose h ∙ (ap op_in (sym e) ∙ sym c.read_op.ensures)
