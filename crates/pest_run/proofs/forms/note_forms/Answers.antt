use Rattle.std.proofs.Common.{inr}
use Rattle.pest_run.proofs.forms.note_forms.Goals as goal

pub returns-then-are_matched-clause-tells : goal.returns-then-are_matched-clause-tells
returns-then-are_matched-clause-tells g c = λ spelled read. rw (← c.in-Some.ensures.text) (inr (c.are_matched.ensures spelled read c.if-are_matched.true, c.write_note.ensures.tells))
