use Rattle.std.proofs.Common.{◌∙◌, ◌++◌, ap, append-nil, map, sym}
use Rattle.std.proofs.lemmas.List.{take_all}
use Rattle.lint_findings.specs.Fragments.{fragment_of}
use Rattle.lint_findings.specs.Starts.{names_of}
use Rattle.lint_warnings.specs.Lists.{texts_of}
use Rattle.lint_diagnostics.proofs.Joining.{none_stated, one_stated, some_stated}
use Rattle.lint_diagnostics.proofs.join_starts.Goals as goal

pub returns-then-is_empty : goal.returns-then-is_empty
returns-then-is_empty c =
    ap texts_of (c.in_ok-extend_from_slice.ensures.items ∙ ap (λ l. l ++ c.args.starts.now) c.new-all.ensures.items)
    ∙ none_stated (texts_of c.args.starts.now) c.args.stated.now (sym c.is_empty.ensures ∙ c.if-is_empty.true)

pub loop-name-init : goal.loop-name-init
loop-name-init c =
    ap texts_of (c.in_ok-extend_from_slice.ensures.items ∙ ap (λ l. l ++ c.args.starts.now) c.new-all.ensures.items) ∙ sym (append-nil (texts_of c.args.starts.now))

pub loop-name-preserved : goal.loop-name-preserved
loop-name-preserved c =
    one_stated c.args.stated.now c.loop-name.name-index c.name-item.result (texts_of c.args.starts.now) _ _ c.loop-name-test.true c.name-item.is c.in_ok-push.ensures.items c.loop-name.invariant

pub returns : goal.returns
returns c =
    some_stated (texts_of c.args.starts.now) c.args.stated.now c.loop-name.all.items _ c.name.result (sym c.is_empty.ensures ∙ c.if-is_empty.false)
    c.in_ok-push-2.ensures.items c.name.ensures
    (c.loop-name.invariant ∙ ap (λ fs. texts_of c.args.starts.now ++ names_of (map fragment_of fs)) (take_all c.loop-name.name-index c.args.stated.now c.loop-name-test.false))
