use Rattle.std.proofs.Common.{◌≡◌, [], drop}
use Rattle.base_ast.specs.Optimized.{optimized_rules_of}
use Rattle.matcher_support.proofs.Rules.{goes_on}
use Rattle.matcher_support.proofs.tags.wrapped.wrap_rules.Given as goal

abbrev pub invariant-loop-rule : goal.invariant-loop-rule
invariant-loop-rule l =
    goes_on [] (optimized_rules_of l.rules) []
    ≡ goes_on (optimized_rules_of l.done.value.items) (optimized_rules_of (drop l.rule-index l.rules)) (optimized_rules_of l.wrappers.value.items)
