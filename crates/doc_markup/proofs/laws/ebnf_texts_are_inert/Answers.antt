use Rattle.doc_markup.proofs.Inert.{comments_inert, strings_plain}
use Rattle.doc_markup.proofs.laws.ebnf_texts_are_inert.Goals as goal

pub returns : goal.returns
returns c = record { strings = strings_plain; comments = comments_inert }
