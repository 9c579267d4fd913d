use Rattle.std.proofs.Common.{◌≡◌, List, map, take}
use Rattle.base_language.specs.Language.Expression.{Grammar}
use Rattle.base_language.specs.Language.Text.{Text}
use Rattle.matcher_compiler.specs.Names.{HaveNumbers, number_in}
use Rattle.matcher_engine.specs.Walks.{AreNamesOf}
use Rattle.matcher_program.specs.ExpectedNames.{name_texts}
use Rattle.matcher_support.proofs.compiled.names_of.Given as goal

abbrev pub invariant-loop-rule : goal.invariant-loop-rule
invariant-loop-rule l = (g : Grammar) → AreNamesOf g l.names → (ns : List Text) → l.rules ≡ map (number_in g) ns
    → HaveNumbers g ns → name_texts l.found.items ≡ take l.rule-index ns
