use Rattle.std.proofs.Common.{ap, ◌∙◌, ◌∷◌, ◌++◌, []}
use Rattle.doc_pages.proofs.Linking.{one_link_more}
use Rattle.doc_pages.proofs.markdown.MarkdownBuilder.rules.Goals as goal

pub loop-number-preserved : goal.loop-number-preserved
loop-number-preserved c =
    let n = c.loop-number.number in
    one_link_more _ _ _ n c.loop-number.invariant
    (c.in_ok-word-2.ensures ∙ c.in_ok-rule_link.ensures ∙ ap (λ t. t ++ n ∷ []) c.in_ok-word.ensures)
