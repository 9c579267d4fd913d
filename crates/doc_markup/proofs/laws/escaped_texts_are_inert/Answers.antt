use Rattle.doc_markup.proofs.Inert.{escaped_inert}
use Rattle.doc_markup.proofs.laws.escaped_texts_are_inert.Goals as goal

pub returns : goal.returns
returns c = escaped_inert
