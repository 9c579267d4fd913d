use Rattle.std.proofs.Common.{ap, length, ◌∙◌, arith}
use Rattle.std.proofs.lemmas.List.{length-append}
use Rattle.front_spanned.specs.Walk.{waiting}
use Rattle.front_spanned.proofs.Walks.{waiting_push}
use Rattle.lint_warnings.proofs.beginners.alternatives_to.Goals as goal

pub loop-next-smaller : goal.loop-next-smaller
loop-next-smaller c =
    let next = c.in-Some.next in
    let rest = c.pop.new.self.items in
    let e = ap (λ l. length (waiting l)) c.in-Some.ensures.items ∙ (ap length (waiting_push rest next) ∙ length-append _ (waiting rest)) in
    let k = c.in_ok-push_alternative.ensures in
    omega arith
