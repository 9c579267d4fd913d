use Rattle.std.proofs.Common.{◌∙◌, sym, ap, ◌-◌, get_or, arith}
use Rattle.matcher_machine.specs.Stacks.{texts_at}
use Rattle.matcher_machine.proofs.Stacking.{is_top, no_top}
use Rattle.matcher_machine.proofs.stack.TextStack.get.Goals as goal

pub returns-then-number-eq0 : goal.returns-then-number-eq0
returns-then-number-eq0 c code text =
    ap (texts_at code text c.args.self.now) c.if-number-eq0.true ∙ no_top c.args.self.now code text

pub returns-in-Some : goal.returns-in-Some
returns-in-Some c =
    let p = c.in-Some.pushed.now in
    is_top c.args.self.now c.args.number p (omega arith) c.requires.within
    (ap (λ ps. get_or ps (c.args.number - 1) p) (sym c.deref.ensures.value) ∙ sym (c.in-Some.ensures.lookup.3.1 p))
