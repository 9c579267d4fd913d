use Rattle.std.proofs.Common.{◌≡◌, ◌∙◌, sym, ap, subst, take, ◌++◌, ◌+◌, Some, slice_get, get_or}
use Rattle.std.proofs.lemmas.Option.{slice_get-get_or}
use Rattle.front_spanned.specs.Nodes.{piece_of}
use Rattle.front_validator.specs.Findings.{Reports, reports_none, OfRepetition}
use Rattle.front_analysis.specs.Names.{grammar_of}
use Rattle.front_analysis.specs.Nodes.{all_nodes}
use Rattle.front_validator.specs.Reporting.{findings_of, repetition_at}
use Rattle.front_validator.proofs.ReportingLemmas.{repetition_step}
use Rattle.front_validator.proofs.findings.repetitions.Goals as goal

pub loop-node-init : goal.loop-node-init
loop-node-init c = λ rs right at.
    let R = OfRepetition (grammar_of rs) in
    subst (λ z. Reports R (take 0 (all_nodes rs)) (findings_of z)) (sym c.new-found.ensures.items) reports_none

pub loop-node-preserved : goal.loop-node-preserved
loop-node-preserved c = λ rs right are.
    let R = OfRepetition (grammar_of rs) in
    let i = c.loop-node.node in
    let spans = c.args.spans.now in
    let s = get_or spans i c.index-spans-node.result in
    let at : slice_get spans i ≡ Some s = slice_get-get_or spans i _ c.loop-node-test.true in
    let h = repetition_step rs c.args.facts.now right spans are i s (findings_of c.loop-node.found.items) at (c.loop-node.invariant rs right are) in
    subst (λ z. Reports R (take (i + 1) (all_nodes rs)) z)
    (sym (c.in_ok-report_repetition.ensures ∙ (ap (λ k. findings_of c.loop-node.found.items ++ repetition_at c.args.facts.now (piece_of c.index-spans-node.result) k) c.kind_of_node.ensures
    ∙ ap (λ r. findings_of c.loop-node.found.items ++ repetition_at c.args.facts.now (piece_of r) (slice_get c.args.facts.now.table.kinds.items i)) c.index-spans-node.is))) h
