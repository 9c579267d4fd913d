use Rattle.std.proofs.Common.{◌∷◌, [], refl}
use Rattle.doc_markup.specs.Links.{links_of}
use Rattle.doc_markup.specs.declared.tokens.Markup.TheVariants as token
use Rattle.doc_markup.specs.declared.vocabulary.Tag.TheVariants as tag
use Rattle.doc_pages.proofs.Linking.{item_more}
use Rattle.doc_pages.proofs.html.push_rule_items.Goals as goal

pub loop-number-preserved : goal.loop-number-preserved
loop-number-preserved c =
    item_more c.loop-number.markup.tokens.items _ _ _ (token.Open tag.Li ∷ token.TagEnd ∷ []) _ _ (links_of c.args.markup.now.tokens.items) c.loop-number.number c.in_ok-start.ensures
    c.in_ok-rule_link.ensures c.in_ok-close_line.ensures refl refl refl c.loop-number.invariant
