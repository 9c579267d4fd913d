use Rattle.std.proofs.Common.{◌≡◌, ◌++◌, drop, map}
use Rattle.base_ast.specs.Optimized.{optimized_rules_of}
use Rattle.matcher_terminals.specs.Exposed.{labelled_rule}
use Rattle.matcher_terminals.proofs.exposed.expose_terminals.Given as goal

abbrev pub invariant-loop-rule : goal.invariant-loop-rule
invariant-loop-rule l =
    optimized_rules_of l.labelled.value.items ++ map labelled_rule (optimized_rules_of (drop l.rule-index l.rules))
    ≡ map labelled_rule (optimized_rules_of l.rules)
