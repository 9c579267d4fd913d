use Rattle.std.proofs.Common.{◌∙◌, ◌++◌, ap, subst, sym}
use Rattle.std.proofs.lemmas.Str.{IsCharBoundary-start}
use Rattle.std.specs.Str.{IsCharBoundary}
use Rattle.front_spanned.specs.Nodes.{rule_views}
use Rattle.lint_findings.specs.Allowances.{allowances_in}
use Rattle.lint_findings.proofs.Allowed.{body_bound, name_bound, part_at, rule_allowed, rules_allowed}
use Rattle.lint_findings.specs.Fragments.{between, fragment_of}
use Rattle.lint_findings.proofs.allowances.find_allowances.Goals as goal

pub loop-rule-init : goal.loop-rule-init
loop-rule-init c = record {
  bound = λ parts. IsCharBoundary-start c.args.text.now c.utf8.text;
  whole = λ parts. ap (λ found. found ++ allowances_in c.args.text.now (rule_views c.args.rules.now)) c.new-found.ensures.items;
}

pub loop-rule-preserved : goal.loop-rule-preserved
loop-rule-preserved c =
    let text = c.args.text.now in
    let rules = c.args.rules.now in
    let i = c.loop-rule.rule-index in
    let rule = c.rule-item.result in
    record {
      bound = λ parts. subst (IsCharBoundary text) (sym c.end-from.ensures) (body_bound text rule (part_at text rules i rule c.loop-rule-test.true c.rule-item.is parts));
      whole = λ parts.
          let part = part_at text rules i rule c.loop-rule-test.true c.rule-item.is parts in
          let bound = subst (IsCharBoundary text) (sym c.start.ensures) (name_bound text rule part) in
          rule_allowed text rules i rule c.loop-rule.from c.end-from.result (fragment_of c.between-gap.result) c.loop-rule.found.items _ _ c.loop-rule-test.true c.rule-item.is
          (c.between-gap.ensures (c.loop-rule.invariant.bound parts) bound ∙ ap (between text c.loop-rule.from) c.start.ensures) c.in_ok-add_allowances.ensures c.end-from.ensures (c.loop-rule.invariant.whole parts);
    }

pub returns : goal.returns
returns c = λ parts.
    rules_allowed c.args.text.now c.args.rules.now c.loop-rule.rule-index c.loop-rule.from c.loop-rule.found.items _ c.loop-rule-test.false (c.loop-rule.invariant.whole parts)
