use Rattle.std.proofs.Common.{rules}
use Rattle.base_ast.specs.Optimized.{optimized_expression_of, optimized_rules_of}
use Rattle.matcher_program.specs.Compiled.{Compiles}
use Rattle.matcher_program.proofs.compile.program_rule_of.Goals as goal

pub returns-clause-says : goal.returns-clause-says
returns-clause-says c =
    let g = optimized_rules_of c.args.rules.now.rules.now in
    let made : Compiles g c.args.properties.now (optimized_expression_of c.args.rule.now.expr) c.in_ok-body.body
    = c.in_ok-body.ensures g c.args.properties.now _ c.in_ok-form_of.ensures.compiles in
    let says = made.says in
    search rules

pub returns-clause-sound : goal.returns-clause-sound
returns-clause-sound c =
    let g = optimized_rules_of c.args.rules.now.rules.now in
    let made : Compiles g c.args.properties.now (optimized_expression_of c.args.rule.now.expr) c.in_ok-body.body
    = c.in_ok-body.ensures g c.args.properties.now _ c.in_ok-form_of.ensures.compiles in
    let bound = made.bound in
    search rules
