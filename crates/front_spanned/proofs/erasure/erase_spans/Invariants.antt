use Rattle.std.proofs.Common.{◌≡◌, ◌++◌, [], reverse, vec_len}
use Rattle.base_ast.specs.Ast.{rules_of}
use Rattle.front_spanned.specs.Erasure.{rules_without_spans}
use Rattle.front_spanned.specs.Nodes.{rule_views}
use Rattle.front_spanned.proofs.erasure.erase_spans.Given as goal

abbrev pub invariant-loop-rule : goal.invariant-loop-rule
invariant-loop-rule l =
    (rules_without_spans (rule_views l.fn.rules.items)
    ≡ rules_of l.erased.value.items ++ rules_without_spans (rule_views (reverse l.rest.value.items)))
    × (l.outside.items ≡ [])

abbrev pub decreases-loop-rule : goal.decreases-loop-rule
decreases-loop-rule l = vec_len l.rest.value
