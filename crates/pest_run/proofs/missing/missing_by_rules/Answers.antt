use Rattle.std.proofs.Common.{◌≡◌, ◌∙◌, ap, subst, sym}
use Rattle.base_ast.specs.Optimized.{optimized_rules_of}
use Rattle.matcher_support.specs.Compiled.{IsCompiled, IsCompiledOf}
use Rattle.matcher_terminals.specs.Exposed.{exposed}
use Rattle.pest_run.proofs.missing.missing_by_rules.Goals as goal

pub returns-in-Ok-Some : goal.returns-in-Ok-Some
returns-in-Ok-Some c =
    let g = optimized_rules_of c.args.rules.now in
    let read = rw c.in-Ok-Some.field-0-is at c.in-Ok-Some.ensures in
    let is : IsCompiled c.deref.result.now c.in-Ok-compile_block.block.items =
    record { whole = c.in-Ok-compile_block.ensures.whole; code = c.in-Ok-compile_block.ensures.compiled; has = c.in-Ok-compile_block.ensures.rules } in
    let e : optimized_rules_of c.deref.result.now ≡ exposed g = ap optimized_rules_of c.deref.ensures.value ∙ c.in-Ok.ensures.exposed in
    let of : IsCompiledOf (optimized_rules_of c.deref.result.now) c.in-Ok-Some.grammar = read c.deref.result.now (rw c.deref-2.ensures.value is) in
    c.missing_by_code.ensures g (subst (λ r. IsCompiledOf r c.in-Ok-Some.grammar) e of)
