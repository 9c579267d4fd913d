use Rattle.std.proofs.Common.{◌≡◌, ◌∙◌, ◌<◌, ◌≤◌, ◌||◌, ap, ap₂, arith, false, get_or, length, map, sym, true}
use Rattle.std.specs.Prelude.{not}
use Rattle.std.specs.List.{list_any}
use Rattle.std.proofs.lemmas.List.{get_or-map, length-map, take_all}
use Rattle.std.proofs.lemmas.List.Folds.{list_any_at, list_any_more}
use Rattle.matcher_code.specs.Operations.{op_in}
use Rattle.matcher_code.specs.declared.code.Op.TheVariants as op
use Rattle.matcher_code.specs.StackUses.{uses_stack}
use Rattle.matcher_code.proofs.stack_uses.is_stackless.Goals as goal

pub loop-piece-preserved : goal.loop-piece-preserved
loop-piece-preserved c =
    let l = c.loop-piece in
    let ops = c.args.code.now.ops.now in
    let i = l.piece-index in
    let within : i < length ops = omega (arith, c.loop-piece-test.true) in
    let here : get_or (map op_in ops) i op.Lose ≡ c.read_op.result = get_or-map op_in ops i _ op.Lose within ∙ sym c.read_op.ensures in
    let unused : uses_stack (get_or (map op_in ops) i op.Lose) ≡ false = ap uses_stack here ∙ (sym c.uses_stack.ensures ∙ c.if-uses_stack.false) in
    list_any_more uses_stack (map op_in ops) i op.Lose (omega (arith, within, length-map ops op_in)) ∙ ap₂ (λ a b. a || b) l.invariant unused

pub returns-then-uses_stack : goal.returns-then-uses_stack
returns-then-uses_stack c =
    let ops = c.args.code.now.ops.now in
    let i = c.loop-piece.piece-index in
    let within : i < length ops = omega (arith, c.loop-piece-test.true) in
    let here : get_or (map op_in ops) i op.Lose ≡ c.read_op.result = get_or-map op_in ops i _ op.Lose within ∙ sym c.read_op.ensures in
    let used : uses_stack (get_or (map op_in ops) i op.Lose) ≡ true = ap uses_stack here ∙ (sym c.uses_stack.ensures ∙ c.if-uses_stack.true) in
    sym (ap not (list_any_at uses_stack (map op_in ops) i op.Lose (omega (arith, within, length-map ops op_in)) used))

pub returns : goal.returns
returns c =
    let ops = c.args.code.now.ops.now in
    let i = c.loop-piece.piece-index in
    let all : length (map op_in ops) ≤ i = omega (arith, c.loop-piece-test.false, length-map ops op_in) in
    sym (ap not (ap (list_any uses_stack) (sym (take_all i (map op_in ops) all)) ∙ c.loop-piece.invariant))
