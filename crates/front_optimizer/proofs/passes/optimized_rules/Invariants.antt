use Rattle.std.proofs.Common.{◌≡◌, length, IfOk}
use Rattle.std.specs.Prelude.{IfErr}
use Rattle.std.specs.Vec.Iter.{into_iter_items, into_iter_len}
use Rattle.base_ast.specs.Ast.{rules_of}
use Rattle.base_ast.specs.Optimized.{optimized_rules_of}
use Rattle.base_language.specs.Language.Expression.{Grammar}
use Rattle.front_optimizer.specs.Bodies.{SufficeFor}
use Rattle.base_language.specs.Pieces.Faults.{IsMemory}
use Rattle.front_optimizer.specs.Passes.{IsOptimizedBody}
use Rattle.front_optimizer.proofs.RuleByRule.{SoFar}
use Rattle.front_optimizer.proofs.passes.optimized_rules.Given as goal

abbrev pub invariant-loop-rule : goal.invariant-loop-rule
invariant-loop-rule l =
    (goal.iterator-loop-rule).can_next l.rule-iterator
    × (goal.iterator-loop-rule).is_finite l.rule-iterator
    × IfOk l.answer (λ answer. (g : Grammar) → SufficeFor l.bodies g (rules_of l.fn.rules.items)
    → SoFar (IsOptimizedBody g) (rules_of l.fn.rules.items) (optimized_rules_of answer.value.items) (rules_of (into_iter_items l.rule-iterator)) × SufficeFor l.bodies g (rules_of (into_iter_items l.rule-iterator)))
    × (into_iter_len l.rule-iterator ≡ length (into_iter_items l.rule-iterator))
    × IfErr l.answer IsMemory
