use Rattle.std.proofs.Common.{◌∙◌, ap, subst, sym}
use Rattle.std.specs.Prelude.{IfOk}
use Rattle.base_ast.specs.Optimized.{optimized_rules_of}
use Rattle.pest_run.specs.Written.{AreRun}
use Rattle.pest_run.specs.declared.arguments.RuleForm.{RuleForm}
use Rattle.base_ast.specs.Ast.{rules_of}
use Rattle.pest_run.proofs.ReadRules.{optimized_all, written_all}
use Rattle.pest_run.proofs.grammars.GrammarRules.to_run.Goals as goal

pub returns-in-Written-clause-rules : goal.returns-in-Written-clause-rules
returns-in-Written-clause-rules c = λ grammar read.
    let P : RuleForm → Type 0 = λ f. IfOk c.unroll_rules.result (λ rules. AreRun f grammar (optimized_rules_of rules.items)) in
    subst P (sym c.in-Written.is) (written_all grammar c.args.self.now (rules_of c.into_inner-rules.result.items) c.unroll_rules.result read
    (ap (λ v. rules_of v.items) c.into_inner-rules.ensures ∙ (c.in_ok-copy_rules.ensures ∙ ap rules_of c.deref.ensures.value))
    c.unroll_rules.ensures.rules c.unroll_rules.ensures.outcomes)

pub returns-in-Optimized-clause-rules : goal.returns-in-Optimized-clause-rules
returns-in-Optimized-clause-rules c = λ grammar read.
    let P : RuleForm → Type 0 = λ f. IfOk c.optimize.result (λ rules. AreRun f grammar (optimized_rules_of rules.items)) in
    subst P (sym c.in-Optimized.is) (optimized_all grammar c.args.self.now (rules_of c.into_inner-rules.result.items) c.optimize.result read
    (ap (λ v. rules_of v.items) c.into_inner-rules.ensures ∙ (c.in_ok-copy_rules.ensures ∙ ap rules_of c.deref.ensures.value))
    c.optimize.ensures.rules)
