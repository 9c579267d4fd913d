use Rattle.std.proofs.lemmas.Result.{err_from_is_err_and}
use Rattle.base_ast.specs.Optimized.{optimized_rules_of}
use Rattle.front_spanned.specs.Nodes.{rule_views}
use Rattle.pest_meta.proofs.Spelled.{answered_without_reports, not_both, spelled_answer}
use Rattle.pest_meta.proofs.Promised.{answer_ends, answer_suffices, answers_bounds, answers_builtins, answers_known, answers_outcomes, spelled_ends, spells_grammar}
use Rattle.pest_meta.proofs.parse_and_optimize.Goals as goal

pub returns-in_err-builtins-clause-refused : goal.returns-in_err-builtins-clause-refused
returns-in_err-builtins-clause-refused c =
    let p = err_from_is_err_and c.from_residual.result c.from_residual.ensures.1 in
    rw (p.1, p.2) c.in_err-builtins.ensures.refused

pub returns-clause-answer : goal.returns-clause-answer
returns-clause-answer c =
    let read = rule_views c.in_ok-builtins.spanned.items in
    let optimized = rw c.in_ok-rules.ensures at c.in_ok-optimize.ensures.rules in
    spelled_answer c.args.grammar.now c.in_ok-builtins.builtins.items read c.in_ok-optimize.field-0.items c.in_ok-builtins.ensures.rules optimized

pub returns-clause-builtins : goal.returns-clause-builtins
returns-clause-builtins c = answers_builtins c.args.grammar.now c.utf8.grammar _ _ (returns-clause-answer c)

pub returns-clause-sound : goal.returns-clause-sound
returns-clause-sound c = spells_grammar c.args.grammar.now c.utf8.grammar _ _ (returns-clause-answer c)

pub returns-clause-outcomes : goal.returns-clause-outcomes
returns-clause-outcomes c = answers_outcomes c.args.grammar.now c.utf8.grammar _ _ (returns-clause-answer c)

pub returns-clause-known_names : goal.returns-clause-known_names
returns-clause-known_names c = answers_known c.args.grammar.now c.utf8.grammar _ _ (returns-clause-answer c)

pub returns-clause-character_bounds : goal.returns-clause-character_bounds
returns-clause-character_bounds c = answers_bounds c.args.grammar.now c.utf8.grammar _ _ (returns-clause-answer c)

pub returns-clause-ends : goal.returns-clause-ends
returns-clause-ends c = λ g s. spelled_ends g (spells_grammar c.args.grammar.now c.utf8.grammar _ _ (returns-clause-answer c) g s)

pub returns-clause-answer_ends : goal.returns-clause-answer_ends
returns-clause-answer_ends c =
    λ g s. answer_ends g _ (answers_outcomes c.args.grammar.now c.utf8.grammar _ _ (returns-clause-answer c) g s)

pub returns-clause-no_reports : goal.returns-clause-no_reports
returns-clause-no_reports c = answered_without_reports c.args.grammar.now _ _ (returns-clause-answer c)

pub returns-clause-no_refusal : goal.returns-clause-no_refusal
returns-clause-no_refusal c = λ refused.
    not_both c.args.grammar.now (c.in_ok-builtins.builtins.items, optimized_rules_of c.in_ok-optimize.field-0.items, returns-clause-answer c) refused

pub returns-clause-agrees : goal.returns-clause-agrees
returns-clause-agrees c = λ g s suffice.
    c.in_ok-optimize.ensures.agrees
    (answer_suffices g _ (answers_outcomes c.args.grammar.now c.utf8.grammar _ _ (returns-clause-answer c) g s) suffice)
