use Rattle.std.proofs.Common.{◌≡◌, ℕ, ◌+◌, ◌-◌, suc, ap₂, get_or, arith}
use Rattle.base_language.specs.declared.grammar.Rule.{Rule}
use Rattle.front_nodes.specs.declared.nodes.TokenNode.{TokenNode}
use Rattle.matcher_code.specs.declared.state.TreeNode.{TreeNode}
use Rattle.front_syntax.proofs.WithRules.{all_with_rules, one_more}
use Rattle.front_syntax.proofs.trees.with_rules.Goals as goal

pub loop-number-preserved : goal.loop-number-preserved
loop-number-preserved c =
    let nodes = c.args.nodes.now in
    let k = c.loop-number.number in
    let d : TreeNode = record { rule = 0; start = 0; end = 0; after = 0 } in
    let t = get_or nodes k d in
    let node : Rule → ℕ → TokenNode = λ r i. record { rule = r; start = t.start; end = t.end; inner = i } in
    let size : c.saturating_sub-inner.result ≡ t.after - suc k = omega (arith, c.saturating_sub-inner.ensures, c.saturating_sub.ensures) in
    one_more nodes k (k + 1) d c.loop-number.all.items c.push.new.self.items (node c.rule_at.result c.saturating_sub-inner.result)
    (omega arith) (omega arith) (ap₂ node c.rule_at.ensures size) c.in_ok-push.ensures.items c.loop-number.invariant

pub returns : goal.returns
returns c = λ us x. all_with_rules c.args.nodes.now us c.loop-number.number c.loop-number.all.items (omega arith) c.loop-number.invariant x
