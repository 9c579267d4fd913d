use Rattle.doc_markup.proofs.Escaping.{five_more}
use Rattle.doc_markup.proofs.sections.push_heading.Goals as goal

pub returns : goal.returns
returns c =
    five_more _ _ _ _ _ _ _ _ _ _ _ c.in_ok-push_str.ensures.bytes c.in_ok-push_escaped.ensures c.in_ok-push_str-2.ensures.bytes
    c.in_ok-push_escaped-2.ensures c.in_ok-push_str-3.ensures.bytes
