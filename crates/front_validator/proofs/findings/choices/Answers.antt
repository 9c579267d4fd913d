use Rattle.std.proofs.Common.{◌∙◌, sym, ap, subst, take, ◌++◌, ◌+◌}
use Rattle.front_validator.specs.Findings.{Reports, reports_none, OfChoice}
use Rattle.front_analysis.specs.Names.{grammar_of}
use Rattle.front_analysis.specs.Nodes.{all_nodes}
use Rattle.front_validator.specs.Reporting.{findings_of, choice_at}
use Rattle.front_validator.proofs.ReportingLemmas.{choice_step}
use Rattle.front_validator.proofs.findings.choices.Goals as goal

pub loop-node-init : goal.loop-node-init
loop-node-init c = λ rs right at.
    let R = OfChoice (grammar_of rs) in
    subst (λ z. Reports R (take 0 (all_nodes rs)) (findings_of z)) (sym c.new-found.ensures.items) reports_none

pub loop-node-preserved : goal.loop-node-preserved
loop-node-preserved c = λ rs right are.
    let R = OfChoice (grammar_of rs) in
    let i = c.loop-node.node in
    let spans = c.args.spans.now in
    let h = choice_step rs c.args.facts.now right spans are i (findings_of c.loop-node.found.items) c.loop-node-test.true (c.loop-node.invariant rs right are) in
    subst (λ z. Reports R (take (i + 1) (all_nodes rs)) z)
    (sym (c.in_ok-report_choice.ensures ∙ ap (λ k. findings_of c.loop-node.found.items ++ choice_at c.args.facts.now spans k) c.kind_of_node.ensures)) h
