use Rattle.std.proofs.Common.{ap, length, ◌∙◌, arith, rules, []}
use Rattle.front_spanned.specs.Walk.{waiting}
use Rattle.front_spanned.proofs.Walks.{waiting_push}
use Rattle.std.proofs.lemmas.List.{length-append}
use Rattle.lint_warnings.specs.Lists.{left_over}
use Rattle.lint_warnings.proofs.Steps.{left_over_push, spans_along}
use Rattle.lint_warnings.proofs.choices.unreachable_of.Goals as goal

pub loop-next-smaller : goal.loop-next-smaller
loop-next-smaller c =
    let next = c.in-Some.next in
    let rest = c.pop.new.self.items in
    let e = ap (λ l. length (waiting l)) c.in-Some.ensures.items ∙ (ap length (waiting_push rest next) ∙ length-append _ (waiting rest)) in
    let k = c.in_ok-take_alternative.ensures.less in
    omega arith

pub loop-next-preserved : goal.loop-next-preserved
loop-next-preserved c =
    let before = c.loop-next.invariant in
    c.in_ok-take_alternative.ensures.collected _ before.0 (spans_along _ before.0 _ _ _ _ _ (ap left_over c.in-Some.ensures.items ∙ left_over_push c.pop.new.self.items c.in-Some.next) before.1)

pub loop-next-init : goal.loop-next-init
loop-next-init c = ([], record { knows = search rules; names = search rules; spans = search rules })
