use Rattle.std.proofs.Common.{◌++◌, ap, map, refl}
use Rattle.lint_patterns.specs.declared.copies.Copied.{Copied}
use Rattle.lint_patterns.proofs.CopyStacks.{both_fewer, both_left, many_told, one_fewer, one_left}
use Rattle.front_spanned.specs.Nodes.{piece_of, view}
use Rattle.lint_patterns.proofs.copies.look_at.Goals as goal

pub returns-in_ok-push-in-Some-clause-looks : goal.returns-in_ok-push-in-Some-clause-looks
returns-in_ok-push-in-Some-clause-looks c =
    let has = c.in-One.ensures in
    let few = c.in-Some.ensures in
    let pushed : Copied = record { node = c.in-One.node; copies = c.in-Some.copies } in
    ap (λ l. map piece_of c.args.found.now.items ++ l)
    (one_left c.args.next.copies (view c.args.next.node.now) (view c.in-One.node.now) has.0 has.1 c.in-One.count c.args.stack.now.items c.push.new.self.items pushed has.2 has.3 few.0 few.1 refl
    c.in_ok-push-in-Some.ensures.items)

pub returns-in_ok-push-in-Some-clause-less : goal.returns-in_ok-push-in-Some-clause-less
returns-in_ok-push-in-Some-clause-less c =
    let has = c.in-One.ensures in
    let pushed : Copied = record { node = c.in-One.node; copies = c.in-Some.copies } in
    one_fewer (view c.args.next.node.now) (view c.in-One.node.now) has.0 has.1 c.args.stack.now.items c.push.new.self.items pushed has.2 refl c.in_ok-push-in-Some.ensures.items

pub returns-in_ok-push-in-None-few_copies-clause-looks : goal.returns-in_ok-push-in-None-few_copies-clause-looks
returns-in_ok-push-in-None-few_copies-clause-looks c =
    let has = c.in-One.ensures in
    many_told c.args.next.copies c.args.next.node.now (view c.in-One.node.now) has.0 has.1 c.in-One.count c.args.found.now.items c.push-in-None-few_copies.new.self.items _ has.2 has.3
    c.in-None-few_copies.ensures c.in_ok-push-in-None-few_copies.ensures.items

pub returns-in_ok-push-in-Two-2-clause-looks : goal.returns-in_ok-push-in-Two-2-clause-looks
returns-in_ok-push-in-Two-2-clause-looks c =
    let has = c.in-Two.ensures in
    let left : Copied = record { node = c.in-Two.left; copies = c.args.next.copies } in
    let right : Copied = record { node = c.in-Two.right; copies = c.args.next.copies } in
    ap (λ l. map piece_of c.args.found.now.items ++ l)
    (both_left c.args.next.copies has.0 has.1 c.args.stack.now.items c.push-in-Two.new.self.items c.push-in-Two-2.new.self.items left right (view c.args.next.node.now) has.2 refl refl
    c.in_ok-push-in-Two.ensures.items c.in_ok-push-in-Two-2.ensures.items)

pub returns-in_ok-push-in-Two-2-clause-less : goal.returns-in_ok-push-in-Two-2-clause-less
returns-in_ok-push-in-Two-2-clause-less c =
    let has = c.in-Two.ensures in
    let left : Copied = record { node = c.in-Two.left; copies = c.args.next.copies } in
    let right : Copied = record { node = c.in-Two.right; copies = c.args.next.copies } in
    both_fewer has.0 has.1 c.args.stack.now.items c.push-in-Two.new.self.items c.push-in-Two-2.new.self.items left right (view c.args.next.node.now) has.2
    c.in_ok-push-in-Two.ensures.items c.in_ok-push-in-Two-2.ensures.items
