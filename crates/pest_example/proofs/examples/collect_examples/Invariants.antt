use Rattle.base_language.specs.Language.Expression.{Grammar}
use Rattle.matcher_support.specs.Compiled.{IsCompiledOf}
use Rattle.pest_example.specs.Examples.{AreExamples}
use Rattle.pest_example.proofs.examples.collect_examples.Given as goal

abbrev pub invariant-loop-attempt : goal.invariant-loop-attempt
invariant-loop-attempt l = (g : Grammar) → IsCompiledOf g l.grammar → AreExamples g l.request.rule.now l.found.items
