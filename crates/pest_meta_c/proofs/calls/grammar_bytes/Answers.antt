use Rattle.std.proofs.Common.{◌++◌, ◌∙◌, ap, subst}
use Rattle.std.proofs.lemmas.Result.{err_from_is_err_and}
use Rattle.base_ast.specs.Ast.{rules_of}
use Rattle.base_ast.specs.Optimized.{optimized_rules_of}
use Rattle.format_binary.specs.Format.{names_bytes, optimized_rules_bytes, rules_bytes}
use Rattle.front_optimizer.specs.Passes.{IsOptimized}
use Rattle.pest_meta.proofs.Spelled.{answered, misnamed, no_grammar, rejected}
use Rattle.pest_meta_c.proofs.Answering.{grammar_answered}
use Rattle.pest_meta_c.proofs.calls.grammar_bytes.Goals as goal

pub returns-in_err-forest-clause-refused : goal.returns-in_err-forest-clause-refused
returns-in_err-forest-clause-refused c =
    let p = err_from_is_err_and c.from_residual.result c.from_residual.ensures.1 in
    rw (p.1, p.2) (no_grammar c.args.text.now c.in_err-forest.field-0.0 c.in_err-forest.ensures.spelled)

pub returns-in_err-builtins-clause-refused : goal.returns-in_err-builtins-clause-refused
returns-in_err-builtins-clause-refused c =
    let p = err_from_is_err_and c.from_residual-in_err-builtins.result c.from_residual-in_err-builtins.ensures.1 in
    let parsed = c.in_ok-forest.ensures in
    rw (p.1, p.2)
    (misnamed c.args.text.now c.in_ok-forest.forest c.in_err-builtins.field-0.0 parsed.text parsed.spelled c.in_err-builtins.ensures.refused)

pub returns-in_err-consume_forest-clause-refused : goal.returns-in_err-consume_forest-clause-refused
returns-in_err-consume_forest-clause-refused c =
    let p = err_from_is_err_and c.from_residual-in_err-consume_forest.result c.from_residual-in_err-consume_forest.ensures.1 in
    let parsed = c.in_ok-forest.ensures in
    rw (p.1, p.2)
    (rejected c.args.text.now c.in_ok-forest.forest c.in_err-consume_forest.field-0.0 parsed.text parsed.spelled c.in_ok-builtins.ensures.no_complaints c.in_err-consume_forest.ensures.refused)

pub returns-clause-answered : goal.returns-clause-answered
returns-clause-answered c =
    let parsed = c.in_ok-forest.ensures in
    let names = c.in_ok-builtins.ensures in
    let builtins = c.in_ok-builtins.builtins.items in
    let rules = c.in_ok-consume_forest.field-0.items in
    let optimized = c.in_ok-optimize.field-0.items in
    let of_rules : IsOptimized (rules_of rules) (optimized_rules_of optimized) = subst (λ rs. IsOptimized (rules_of rs.items) (optimized_rules_of optimized)) c.into_inner.ensures c.in_ok-optimize.ensures.rules in
    let answer = answered c.args.text.now c.in_ok-forest.forest builtins (rules_of rules) optimized parsed.text parsed.spelled names.no_complaints names.builtins c.in_ok-consume_forest.ensures.rules of_rules in
    let first = c.in_ok-push_names.ensures ∙ (ap (λ t. t ++ names_bytes c.deref.result.now) c.new-bytes.ensures.items ∙ ap names_bytes c.deref.ensures.value) in
    let second = c.in_ok-push_rules.ensures ∙ ap (λ rs. c.push_names.new.out.items ++ rules_bytes rs) c.deref-2.ensures.value in
    let last = c.in_ok-push_optimized_rules.ensures ∙ ap (λ rs. c.push_rules.new.out.items ++ optimized_rules_bytes rs) c.deref-3.ensures.value in
    grammar_answered c.args.text.now _ _ _ c.in_ok-forest.forest builtins rules optimized parsed.text parsed.spelled c.in_ok-consume_forest.ensures.rules answer first second last
