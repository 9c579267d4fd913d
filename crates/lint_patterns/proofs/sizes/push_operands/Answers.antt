use Rattle.std.proofs.Common.{refl}
use Rattle.front_spanned.specs.Nodes.{view}
use Rattle.lint_patterns.specs.declared.copies.Copied.{Copied}
use Rattle.lint_patterns.proofs.CopyStacks.{both_fewer, one_fewer}
use Rattle.lint_patterns.proofs.SizeStacks.{both_on, one_on, one_over}
use Rattle.lint_patterns.proofs.sizes.push_operands.Goals as goal

pub returns-in-None-product_within-clause-over : goal.returns-in-None-product_within-clause-over
returns-in-None-product_within-clause-over c = λ said.
    let has = c.in-One.ensures in
    one_over c.args.next.copies c.args.most (view c.args.next.node.now) (view c.in-One.node.now) has.0 has.1 c.in-One.count has.2 has.3 c.in-None-product_within.ensures

pub returns-in_ok-push-in-Some-clause-pushed : goal.returns-in_ok-push-in-Some-clause-pushed
returns-in_ok-push-in-Some-clause-pushed c = λ said.
    let has = c.in-One.ensures in
    let pushed : Copied = record { node = c.in-One.node; copies = c.in-Some.copies } in
    one_on c.args.next.copies (view c.args.next.node.now) (view c.in-One.node.now) has.0 has.1 c.in-One.count c.args.stack.now.items c.push.new.self.items pushed has.2 has.3 c.in-Some.ensures.1 refl
    c.in_ok-push-in-Some.ensures.items

pub returns-in_ok-push-in-Some-clause-less : goal.returns-in_ok-push-in-Some-clause-less
returns-in_ok-push-in-Some-clause-less c = λ said.
    let has = c.in-One.ensures in
    let pushed : Copied = record { node = c.in-One.node; copies = c.in-Some.copies } in
    one_fewer (view c.args.next.node.now) (view c.in-One.node.now) has.0 has.1 c.args.stack.now.items c.push.new.self.items pushed has.2 refl c.in_ok-push-in-Some.ensures.items

pub returns-in_ok-push-in-Two-2-clause-pushed : goal.returns-in_ok-push-in-Two-2-clause-pushed
returns-in_ok-push-in-Two-2-clause-pushed c = λ said.
    let has = c.in-Two.ensures in
    let left : Copied = record { node = c.in-Two.left; copies = c.args.next.copies } in
    let right : Copied = record { node = c.in-Two.right; copies = c.args.next.copies } in
    both_on c.args.next.copies has.0 has.1 c.args.stack.now.items c.push-in-Two.new.self.items c.push-in-Two-2.new.self.items left right (view c.args.next.node.now) has.2 refl refl
    c.in_ok-push-in-Two.ensures.items c.in_ok-push-in-Two-2.ensures.items

pub returns-in_ok-push-in-Two-2-clause-less : goal.returns-in_ok-push-in-Two-2-clause-less
returns-in_ok-push-in-Two-2-clause-less c = λ said.
    let has = c.in-Two.ensures in
    let left : Copied = record { node = c.in-Two.left; copies = c.args.next.copies } in
    let right : Copied = record { node = c.in-Two.right; copies = c.args.next.copies } in
    both_fewer has.0 has.1 c.args.stack.now.items c.push-in-Two.new.self.items c.push-in-Two-2.new.self.items left right (view c.args.next.node.now) has.2
    c.in_ok-push-in-Two.ensures.items c.in_ok-push-in-Two-2.ensures.items
