use Rattle.std.proofs.Common.{sym, ap, length, arith}
use Rattle.lint_warnings.proofs.Known.{begins_found, begins_missing}
use Rattle.lint_warnings.proofs.literals.Literals.begin.Goals as goal

pub returns-then-has_front : goal.returns-then-has_front
returns-then-has_front c = λ texts known.
    sym (begins_found texts c.args.self.now c.args.text.now _ c.utf8.text known (c.has_front.ensures.front c.if-has_front.true) (c.has_front.ensures.found c.if-has_front.true))

pub returns : goal.returns
returns c = λ texts known.
    sym (begins_missing texts c.args.self.now c.args.text.now c.utf8.text known (λ k h.
    c.loop-length.invariant k (let e = ap length c.deref-length-items.ensures.value in omega arith)))
