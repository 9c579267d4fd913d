use Rattle.std.proofs.Common.{◌∙◌, ap, map}
use Rattle.std.proofs.lemmas.List.{take_all}
use Rattle.lint_findings.specs.Fragments.{fragment_of}
use Rattle.lint_findings.specs.Starts.{names_of}
use Rattle.doc_pages.proofs.Starting.{text_more}
use Rattle.doc_pages.proofs.starts.texts_in.Goals as goal

pub loop-fragment-preserved : goal.loop-fragment-preserved
loop-fragment-preserved c =
    text_more c.args.fragments.now c.loop-fragment.fragment-index c.fragment-item.result _ _ c.loop-fragment-test.true
    c.fragment-item.is c.in_ok-push.ensures.items c.loop-fragment.invariant

pub returns : goal.returns
returns c =
    c.loop-fragment.invariant
    ∙ ap (λ fs. names_of (map fragment_of fs)) (take_all c.loop-fragment.fragment-index c.args.fragments.now c.loop-fragment-test.false)
