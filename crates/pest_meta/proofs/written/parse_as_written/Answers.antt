use Rattle.std.proofs.lemmas.Result.{err_from_is_err_and}
use Rattle.base_ast.specs.Optimized.{optimized_rules_of}
use Rattle.front_spanned.specs.Erasure.{rules_without_spans}
use Rattle.front_spanned.specs.Nodes.{rule_views}
use Rattle.pest_meta.proofs.Spelled.{spells_accepted, written}
use Rattle.pest_meta.proofs.WrittenPromised.{written_bounds, written_known}
use Rattle.pest_meta.proofs.written.parse_as_written.Goals as goal

pub returns-in_err-spanned-clause-refused : goal.returns-in_err-spanned-clause-refused
returns-in_err-spanned-clause-refused c =
    let p = err_from_is_err_and c.from_residual.result c.from_residual.ensures.1 in
    rw (p.1, p.2) c.in_err-spanned.ensures.refused

pub returns-clause-rules : goal.returns-clause-rules
returns-clause-rules c =
    let spelled = c.in_ok-spanned in
    let read = rule_views spelled.spanned.items in
    let out = rw c.in_ok-rules.ensures at c.unroll_rules.ensures.rules in
    let same = rw c.in_ok-rules.ensures at c.unroll_rules.ensures.outcomes in
    written c.args.grammar.now (rules_without_spans read) c.unroll_rules.result
    (spells_accepted c.args.grammar.now spelled.field-0-0.items read spelled.ensures.rules) out same

pub returns-clause-known_names : goal.returns-clause-known_names
returns-clause-known_names c =
    let spelled = c.in_ok-spanned in
    let out = rw c.in_ok-rules.ensures at c.unroll_rules.ensures.rules in
    written_known c.args.grammar.now c.utf8.grammar spelled.field-0-0.items (rule_views spelled.spanned.items) c.unroll_rules.result spelled.ensures.rules out

pub returns-clause-character_bounds : goal.returns-clause-character_bounds
returns-clause-character_bounds c =
    let spelled = c.in_ok-spanned in
    let out = rw c.in_ok-rules.ensures at c.unroll_rules.ensures.rules in
    written_bounds c.args.grammar.now c.utf8.grammar spelled.field-0-0.items (rule_views spelled.spanned.items) c.unroll_rules.result spelled.ensures.rules out
