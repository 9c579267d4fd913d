use Rattle.front_reader.proofs.Levels.{stand_term, term_read}
use Rattle.front_reader.proofs.Signs.{signs_place}
use Rattle.front_reader.proofs.rules.reading.finish_operand.Goals as goal

pub with_signs-requires : goal.with_signs-requires
with_signs-requires c =
    let h = c.requires.1 in
    signs_place c.args.operand (h.signed.stand (stand_term h.stands)) h.reads.1

pub finish_term-requires : goal.finish_term-requires
finish_term-requires c = (c.requires.0, term_read c.in_ok-node.node c.requires.1 c.in_ok-node.ensures)

pub returns-clause-goes_on : goal.returns-clause-goes_on
returns-clause-goes_on c = λ us h. c.finish_term.ensures.goes_on us (term_read c.in_ok-node.node h c.in_ok-node.ensures)
