use Rattle.lint_patterns.specs.declared.alternatives.Placed.{Placed}
use Rattle.lint_patterns.proofs.AlternativeStacks.{both_nodes, both_spans}
use Rattle.lint_patterns.proofs.alternatives.push_both.Goals as goal

pub returns-clause-spans : goal.returns-clause-spans
returns-clause-spans c =
    let left : Placed = record { node = c.args.left; is_alternative = c.args.is_alternative } in
    let right : Placed = record { node = c.args.right; is_alternative = c.args.is_alternative } in
    both_spans c.args.stack.now.items c.push.new.self.items c.push-2.new.self.items left right c.in_ok-push.ensures.items c.in_ok-push-2.ensures.items

pub returns-clause-nodes : goal.returns-clause-nodes
returns-clause-nodes c =
    let left : Placed = record { node = c.args.left; is_alternative = c.args.is_alternative } in
    let right : Placed = record { node = c.args.right; is_alternative = c.args.is_alternative } in
    both_nodes c.args.stack.now.items c.push.new.self.items c.push-2.new.self.items left right c.in_ok-push.ensures.items c.in_ok-push-2.ensures.items
