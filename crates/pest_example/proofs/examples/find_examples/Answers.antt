use Rattle.base_ast.specs.Optimized.{optimized_rules_of}
use Rattle.matcher_support.specs.Compiled.{IsCompiled, IsCompiledOf}
use Rattle.pest_example.proofs.examples.find_examples.Goals as goal

pub returns : goal.returns
returns c =
    let read = rw c.in-Some.is at c.in_ok-grammar.ensures in
    let is : IsCompiled c.args.rules.now c.in-Ok.block.items = record { whole = c.in-Ok.ensures.whole; code = c.in-Ok.ensures.compiled; has = c.in-Ok.ensures.rules } in
    let of : IsCompiledOf (optimized_rules_of c.args.rules.now) c.in-Some.grammar = read c.args.rules.now (rw c.deref.ensures.value is) in
    c.in_ok-collect_examples.ensures (optimized_rules_of c.args.rules.now) of
