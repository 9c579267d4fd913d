use Rattle.doc_markup.proofs.Escaping.{three_more}
use Rattle.doc_markup.proofs.sections.push_index.Goals as goal

pub returns : goal.returns
returns c =
    three_more _ _ _ _ _ _ _ c.in_ok-push_str.ensures.bytes c.in_ok-push_markup.ensures c.in_ok-push_str-2.ensures.bytes
