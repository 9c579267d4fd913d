use Rattle.front_spanned.specs.Erasure.{rules_without_spans}
use Rattle.front_spanned.specs.Nodes.{rule_views}
use Rattle.pest_meta.proofs.Spelled.{spells_accepted}
use Rattle.lint_diagnostics.proofs.comparer.write_out.Goals as goal

pub returns-in-Ok : goal.returns-in-Ok
returns-in-Ok c = λ grammar s. record {
  spelled = rules_without_spans (rule_views c.args.rules.now);
  accepted = spells_accepted grammar s.0 (rule_views c.args.rules.now) s.1;
  written_out = rw (c.into_inner.ensures, c.in_ok-copies.ensures) at c.in-Ok.ensures.rules;
  outcomes = rw (c.into_inner.ensures, c.in_ok-copies.ensures) at c.in-Ok.ensures.outcomes;
}
