use Rattle.std.proofs.Common.{◌≡◌, ◌∙◌, ap, sym, false, rules, subst}
use Rattle.base_ast.specs.Optimized.{optimized_expression_of, optimized_rule_of}
use Rattle.base_graphs.specs.Least.{is_set_at}
use Rattle.front_restorer.specs.Summaries.{IsWithin, shows}
use Rattle.front_restorer.specs.KnownChanges.{changes_stack}
use Rattle.front_restorer.proofs.Looking.{shown}
use Rattle.front_restorer.proofs.Noting.{noted_from}
use Rattle.front_restorer.proofs.Quiet.{restored_stays}
use Rattle.front_restorer.proofs.restorer.restore_rule.Goals as goal

pub is_shown-requires : goal.is_shown-requires
is_shown-requires c = subst (λ qs. IsWithin qs c.args.share) (sym c.deref.ensures.value) c.requires.within

pub returns-then-not-is_shown-clause-whole : goal.returns-then-not-is_shown-clause-whole
returns-then-not-is_shown-clause-whole c =
    let changes = c.args.changes.now in
    let flags = changes.flags.items in
    let rule = c.args.rule.now in
    let qs = changes.noted.numbers.items in
    let off : shows qs (is_set_at flags) c.args.share ≡ false = search rules in
    ap (λ b. record (optimized_rule_of rule) { body = b }) (sym (restored_stays (changes_stack changes) (optimized_expression_of rule.expr) (sym (shown changes.names (is_set_at flags) rule.expr qs c.args.share c.requires) ∙ off)))

pub restore-requires : goal.restore-requires
restore-requires c = record {
  noted = noted_from c.args.changes.now.names (optimized_expression_of c.args.rule.now.expr) c.args.changes.now.noted.numbers.items c.args.share c.requires;
}
