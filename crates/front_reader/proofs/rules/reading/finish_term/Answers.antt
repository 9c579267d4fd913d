use Rattle.std.proofs.Common.{refl, ◌∙◌}
use Rattle.front_reader.proofs.Levels.{term_piece, term_front, stand_alternative, alternative_read, at_next_term, next_work}
use Rattle.front_reader.proofs.rules.reading.finish_term.Goals as goal

pub together-requires : goal.together-requires
together-requires c =
    let h = c.requires.1 in
    term_piece c.args.beside.sequence c.args.node h.stands.begins (stand_alternative h.stands.choice) h.reads.1

pub finish_alternative-requires : goal.finish_alternative-requires
finish_alternative-requires c =
    let h = c.requires.1 in
    (c.requires.0, alternative_read c.in_ok-sequence.sequence h c.in_ok-sequence.ensures (c.in-None.ensures c.args.text.now h.stands.others))

pub returns-in-Some-clause-goes_on : goal.returns-in-Some-clause-goes_on
returns-in-Some-clause-goes_on c = λ us h.
    at_next_term c.in_ok-sequence.sequence h.stands.choice refl (rw c.in_ok-sequence.ensures (term_front h.stands.begins h.reads.1)) (h.stands.flaws ∙ rw h.reads.0 refl) (c.in-Some.ensures c.args.text.now h.stands.others)

pub returns-in-Some-clause-work : goal.returns-in-Some-clause-work
returns-in-Some-clause-work c = next_work (c.in-Some.ensures c.args.text.now c.requires.1.stands.others)

pub returns-in-None-clause-goes_on : goal.returns-in-None-clause-goes_on
returns-in-None-clause-goes_on c = λ us h.
    c.finish_alternative.ensures.goes_on us (alternative_read c.in_ok-sequence.sequence h c.in_ok-sequence.ensures (c.in-None.ensures c.args.text.now h.stands.others))
