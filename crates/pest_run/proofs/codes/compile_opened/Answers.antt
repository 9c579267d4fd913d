use Rattle.std.proofs.Common.{List, subst}
use Rattle.std.proofs.lemmas.Result.{IfOk-weaker}
use Rattle.base_ast.specs.declared.optimized.OptimizedRule.{OptimizedRule}
use Rattle.matcher_support.specs.Compiled.{IsCompiled}
use Rattle.pest_run.proofs.codes.compile_opened.Goals as goal

pub returns-in-Ok-clause-compiled : goal.returns-in-Ok-clause-compiled
returns-in-Ok-clause-compiled g c = λ text spells.
    let builtins = c.args.opened.builtins.items in
    let rules = c.in-Ok.rules.items in
    let answer = c.in-Ok.ensures.answer text builtins (rw c.into_inner.ensures spells) in
    IfOk-weaker c.compile_rules.result _ _
    (λ block is. (builtins, rules, answer, (let Q : List OptimizedRule → Type 0 = λ rs. IsCompiled rs block.items in subst Q c.deref.ensures.value is)))
    c.compile_rules.ensures.compiled
