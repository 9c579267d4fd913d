use Rattle.std.proofs.lemmas.Result.{err_from_is_err_and}
use Rattle.front_reader.proofs.FlawsInOrder.{first_as}
use Rattle.front_reader.proofs.Levels.{inside_read, operand_read, term_first}
use Rattle.front_reader.proofs.rules.reading.finish_level.Goals as goal

pub close_operand-requires : goal.close_operand-requires
close_operand-requires c =
    let h = c.requires.1 in
    (h.inside.operand, inside_read h)

pub returns-in_err-node-clause-goes_on : goal.returns-in_err-node-clause-goes_on
returns-in_err-node-clause-goes_on c = λ us h.
    let p = err_from_is_err_and c.from_residual.result c.from_residual.ensures.1 in
    rw (p.1, p.2) (term_first _ h.inside.stands (first_as _ _ _ h.inside.signed.flaws (c.in_err-node.ensures h.inside.operand (inside_read h))))

pub finish_operand-requires : goal.finish_operand-requires
finish_operand-requires c =
    let h = c.requires.1 in
    (c.requires.0, operand_read c.in_ok-node.node h (c.in_ok-node.ensures h.inside.operand (inside_read h)))

pub returns-clause-goes_on : goal.returns-clause-goes_on
returns-clause-goes_on c = λ us h.
    c.in_ok-finish_operand.ensures.goes_on us (operand_read c.in_ok-node.node h (c.in_ok-node.ensures h.inside.operand (inside_read h)))
