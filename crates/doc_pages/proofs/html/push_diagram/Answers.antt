use Rattle.std.proofs.Common.{◌∷◌, [], ◌∙◌, ap, refl}
use Rattle.std.specs.HashMap.{get_by_text}
use Rattle.std.specs.List.{flat_map}
use Rattle.doc_markup.specs.declared.tokens.Markup.TheVariants as token
use Rattle.doc_markup.specs.declared.vocabulary.Class.TheVariants as a_class
use Rattle.doc_markup.specs.declared.vocabulary.Tag.TheVariants as tag
use Rattle.doc_pages.specs.Links.{diagram_links, mark_links}
use Rattle.doc_pages.proofs.Linking.{links_shown, ok_links_between}
use Rattle.doc_pages.proofs.html.push_diagram.Goals as goal

pub returns : goal.returns
returns c =
    let drawn = c.in_ok-diagram.diagram.tokens.items in
    ok_links_between c.close_line.result c.args.markup.now.tokens.items _ _ _
    (token.Open tag.Div ∷ token.Class a_class.Scroll ∷ token.TagEnd ∷ []) drawn _ (diagram_links (get_by_text c.args.numbers.now) c.args.expr.now)
    c.in_ok-start_with_class.ensures c.in_ok-append.ensures.items c.close_line.ensures refl
    (links_shown drawn ∙ ap (flat_map mark_links) c.in_ok-diagram.ensures) refl
