use Rattle.std.proofs.Common.{length}
use Rattle.std.proofs.lemmas.List.Elements.{All-same}
use Rattle.std.specs.HashMap.{get_by_text}
use Rattle.std.specs.Prelude.{◌<◌}
use Rattle.doc_pages.specs.Links.{diagram_links, source_links}
use Rattle.doc_pages.proofs.Linking.{diagram_below, ok_within_more, source_below, within_more}
use Rattle.doc_pages.proofs.html.push_rule.Goals as goal

pub returns-in_default : goal.returns-in_default
returns-in_default c =
    let doc = c.args.doc.now in
    let n = length doc.rules.value.items in
    let number_of = get_by_text doc.numbers in
    ok_within_more c.push_diagram.result n c.args.markup.now.tokens.items c.push_diagram.new.markup.tokens.items
    (diagram_links number_of c.args.expr.now) c.push_diagram.ensures (diagram_below n number_of doc.numbered c.args.expr.now)
    (λ h. h)

pub returns : goal.returns
returns c =
    let doc = c.args.doc.now in
    let n = length doc.rules.value.items in
    let number_of = get_by_text doc.numbers in
    let parts = c.in-Some.source.now.parts.items in
    ok_within_more c.push_source.result n c.push_diagram-2.new.markup.tokens.items c.push_source.new.markup.tokens.items
    (source_links number_of c.args.number parts) c.push_source.ensures
    (source_below n number_of doc.numbered c.args.number parts)
    (λ h. within_more n c.push_comment.new.markup.tokens.items c.push_diagram-2.new.markup.tokens.items
    (diagram_links number_of c.args.expr.now) c.in_ok-push_diagram.ensures
    (diagram_below n number_of doc.numbered c.args.expr.now) (All-same (λ r. r < n) _ _ c.in_ok-push_comment.ensures h))
