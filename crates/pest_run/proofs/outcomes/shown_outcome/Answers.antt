use Rattle.pest_run.proofs.outcomes.shown_outcome.Goals as goal

pub returns-in-Ok-note_of : goal.returns-in-Ok-note_of
returns-in-Ok-note_of c = λ rule trees e. (c.in-Ok.ensures rule trees e, c.in-Ok-note_of.ensures)
