use Rattle.std.proofs.Common.{◌≡◌, ◌∙◌, ◌+◌, [], ap, arith, length, refl, reverse, subst, sym}
use Rattle.matcher_machine.specs.Expansions.{AreWaiting}
use Rattle.matcher_machine.proofs.Expanding.{few_visits, starts}
use Rattle.matcher_machine.proofs.events.Log.expand.Goals as goal

pub loop-visits-init : goal.loop-visits-init
loop-visits-init c = λ xs n s.
    let es = c.args.self.now.entries.items in
    let made = c.new-expander.ensures in
    let waits = c.in_ok-push_frame.ensures in
    let none : AreWaiting es (reverse c.new-expander.result.waiting.items) [] 0 = subst (λ ns. AreWaiting es (reverse ns) [] 0) (sym made.waiting) (refl, refl) in
    let e : n ≡ 0 + n = omega arith in
    (n, e, starts es c.push_frame.new.self xs n (waits.trees ∙ made.trees) (waits.waiting xs [] n 0 s none))

pub returns-then-not-branch-clause-trees : goal.returns-then-not-branch-clause-trees
returns-then-not-branch-clause-trees c = λ xs h.
    let i = c.loop-visits.invariant xs h.visits h.spans in
    let z = c.in_ok-visit.ensures.ended xs i.0 i.2 c.if-not-branch.true in
    ap (λ p. p.trees) z.1

pub returns-then-not-branch-clause-visits : goal.returns-then-not-branch-clause-visits
returns-then-not-branch-clause-visits c = λ xs left h b.
    let i = c.loop-visits.invariant xs h.visits h.spans in
    let z = c.in_ok-visit.ensures.ended xs i.0 i.2 c.if-not-branch.true in
    omega (arith, few_visits c.args.self.now.entries.items c.args.self.now.last h.visits left xs h.spans b, i.1, z.0, ap (λ p. length p.trees) z.1)

pub loop-visits-preserved : goal.loop-visits-preserved
loop-visits-preserved c = λ xs n s.
    let i = c.loop-visits.invariant xs n s in
    let z = c.in_ok-visit.ensures.visited xs i.0 i.2 c.if-not-branch.false in
    let e : n ≡ c.loop-visits.visits + 1 + z.0 = omega (arith, i.1, z.1) in
    (z.0, e, z.2)
