use Rattle.std.proofs.Common.{take}
use Rattle.base_language.specs.Language.Expression.{Grammar}
use Rattle.matcher_support.specs.Compiled.{IsCompiledOf}
use Rattle.pest_test.specs.Verdicts.{AreVerdicts}
use Rattle.pest_test.proofs.verdicts.judge_all.Given as goal

abbrev pub invariant-loop-case : goal.invariant-loop-case
invariant-loop-case l = (g : Grammar) → IsCompiledOf g l.rules
    → AreVerdicts g l.default (take l.case-index l.cases) l.verdicts.items
