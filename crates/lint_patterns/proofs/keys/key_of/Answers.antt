use Rattle.std.proofs.Common.{◌≡◌, ◌∙◌, ◌<◌, [], ◌++◌, ap, sym, refl, rules, append-nil, length}
use Rattle.std.specs.Prelude.{flat_map}
use Rattle.lint_patterns.specs.Keys.{key, sign}
use Rattle.lint_patterns.proofs.Unique.{not_longer, signs_are_key, too_long}
use Rattle.front_spanned.specs.Erasure.{without_spans}
use Rattle.front_spanned.specs.Nodes.{view}
use Rattle.front_spanned.specs.Walk.{waiting}
use Rattle.front_spanned.proofs.Walks.{waiting_on, waiting_push, waits_less, walk_step}
use Rattle.lint_patterns.proofs.keys.key_of.Goals as goal

pub returns-then-len-gt-LONGEST : goal.returns-then-len-gt-LONGEST
returns-then-len-gt-LONGEST c =
    let long : 256 < length c.push_sign.new.key.items = search rules in
    too_long (view c.in-Some.next.now) c.loop-next.key.items c.push_sign.new.key.items (waiting c.loop-next.stack.items) (waiting c.pop.new.self.items) (key (without_spans (view c.args.node.now)))
    c.in_ok-push_sign.ensures (ap waiting c.in-Some.ensures.items ∙ waiting_push c.pop.new.self.items c.in-Some.next) (c.loop-next.invariant.numbers ∙ signs_are_key (view c.args.node.now)) long

pub loop-next-smaller : goal.loop-next-smaller
loop-next-smaller c =
    waits_less c.loop-next.stack.items c.pop.new.self.items c.push_operands.new.stack.items c.in-Some.next c.in-Some.ensures.items c.in_ok-push_operands.ensures

pub loop-next-preserved : goal.loop-next-preserved
loop-next-preserved c = record {
  numbers =
      walk_step sign _ _ _ _ _ (view c.in-Some.next.now) c.in_ok-push_sign.ensures
      (waiting_on c.loop-next.stack.items c.pop.new.self.items c.push_operands.new.stack.items c.in-Some.next c.in-Some.ensures.items c.in_ok-push_operands.ensures)
      c.loop-next.invariant.numbers;
  few = search rules;
}

pub returns : goal.returns
returns c =
    let none_left : c.pop.new.self.items ≡ [] = c.in_default.ensures.rest ∙ rw c.in_default.ensures.cases.0 refl in
    let none : c.loop-next.stack.items ≡ [] = c.in_default.ensures.items ∙ (append-nil c.pop.new.self.items ∙ none_left) in
    let same : c.loop-next.key.items ≡ key (without_spans (view c.args.node.now)) =
    sym (append-nil c.loop-next.key.items)
    ∙ (ap (λ l. c.loop-next.key.items ++ flat_map sign (waiting l)) (sym none) ∙ (c.loop-next.invariant.numbers ∙ signs_are_key (view c.args.node.now)))
    in
    (same, not_longer c.loop-next.key.items (key (without_spans (view c.args.node.now))) same c.loop-next.invariant.few)
