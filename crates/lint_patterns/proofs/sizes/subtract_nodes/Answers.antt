use Rattle.std.proofs.Common.{◌∙◌, ap, arith, rules}
use Rattle.front_spanned.specs.Nodes.{view}
use Rattle.lint_patterns.specs.CopyLists.{nodes_left}
use Rattle.lint_patterns.specs.Sizes.{nodes_on}
use Rattle.lint_patterns.proofs.CopyStacks.{nodes_left_push}
use Rattle.lint_patterns.proofs.SizeStacks.{copies_within, nodes_on_push}
use Rattle.lint_patterns.proofs.sizes.subtract_nodes.Goals as goal

pub returns-then-next-left : goal.returns-then-next-left
returns-then-next-left c = λ fits.
    let e = ap nodes_on c.in-Some.ensures.items ∙ nodes_on_push c.pop.new.self.items c.in-Some.next in
    let least = copies_within c.in-Some.next.copies (view c.in-Some.next.node.now) in
    omega arith

pub returns-then-not-branch : goal.returns-then-not-branch
returns-then-not-branch c = λ fits.
    let e = ap nodes_on c.in-Some.ensures.items ∙ nodes_on_push c.pop.new.self.items c.in-Some.next in
    let over = c.in_ok-push_operands.ensures.over (search rules) in
    omega arith

pub loop-next-smaller : goal.loop-next-smaller
loop-next-smaller c =
    let e = ap nodes_left c.in-Some.ensures.items ∙ nodes_left_push c.pop.new.self.items c.in-Some.next in
    let h = c.in_ok-push_operands.ensures.less (search rules) in
    omega arith

pub loop-next-preserved : goal.loop-next-preserved
loop-next-preserved c =
    let e = ap nodes_on c.in-Some.ensures.items ∙ nodes_on_push c.pop.new.self.items c.in-Some.next in
    let h = c.in_ok-push_operands.ensures.pushed (search rules) in
    omega arith
