use Rattle.doc_markup.proofs.Inert.{code_indented, inline_inert}
use Rattle.doc_markup.proofs.laws.markdown_texts_are_inert.Goals as goal

pub returns : goal.returns
returns c = record { inline = inline_inert; code = code_indented }
