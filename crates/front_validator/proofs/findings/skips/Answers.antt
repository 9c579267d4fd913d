use Rattle.std.proofs.Common.{◌≡◌, ◌∙◌, sym, ap, subst, take, ◌++◌, ◌+◌, Some, slice_get, get_or}
use Rattle.std.proofs.lemmas.Option.{slice_get-get_or}
use Rattle.front_spanned.specs.Nodes.{rule_views}
use Rattle.front_validator.specs.Findings.{Reports, reports_none, OfSkipped}
use Rattle.front_analysis.specs.Names.{grammar_of}
use Rattle.front_validator.specs.Reporting.{findings_of, skipped_at}
use Rattle.front_validator.proofs.ReportingLemmas.{skipped_step}
use Rattle.front_validator.proofs.findings.skips.Goals as goal

pub loop-place-init : goal.loop-place-init
loop-place-init c =
    let R = OfSkipped (grammar_of c.args.rules.now) in
    subst (λ z. Reports R (rule_views (take 0 c.args.rules.now)) (findings_of z)) (sym c.new-found.ensures.items) reports_none

pub loop-place-preserved : goal.loop-place-preserved
loop-place-preserved c =
    let R = OfSkipped (grammar_of c.args.rules.now) in
    let i = c.loop-place.place in
    let rs = c.args.rules.now in
    let rule = get_or rs i c.index-rules-place.result in
    let at : slice_get rs i ≡ Some rule = slice_get-get_or rs i c.index-rules-place.result c.loop-place-test.true in
    let h = skipped_step rs c.args.facts.now c.requires i rule (findings_of c.loop-place.found.items) at c.loop-place.invariant in
    subst (λ z. Reports R (rule_views (take (i + 1) rs)) z)
    (sym (c.in_ok-report_skipped.ensures ∙ (ap (λ k. findings_of c.loop-place.found.items ++ skipped_at c.args.facts.now c.index-rules-place.result k) c.root_of_rule.ensures
    ∙ ap (λ r. findings_of c.loop-place.found.items ++ skipped_at c.args.facts.now r (slice_get c.args.facts.now.table.roots.items i)) c.index-rules-place.is))) h
