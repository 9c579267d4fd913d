use Rattle.std.proofs.Common.{◌≡◌, ◌≢◌, [], ap, rules, arith}
use Rattle.std.proofs.lemmas.Grind.{common_steps}
use Rattle.std.proofs.lemmas.Result.{err_from_is_err_and}
use Rattle.front_spanned.specs.Nodes.{rule_views}
use Rattle.front_validator.specs.Reporting.{findings_of}
use Rattle.pest_meta.proofs.Opens.{none_found, rules_refuse, spells_with_spans, unvalidated}
use Rattle.pest_meta.proofs.opened.open.Goals as goal

pub returns-in_err-opened-clause-refused : goal.returns-in_err-opened-clause-refused
returns-in_err-opened-clause-refused c =
    let p = err_from_is_err_and c.from_residual.result c.from_residual.ensures.1 in
    rw (p.1, p.2) (unvalidated c.args.text.now c.in_err-opened.field-0.0 c.in_err-opened.ensures.refused)

pub returns-in_err-findings-clause-refused : goal.returns-in_err-findings-clause-refused
returns-in_err-findings-clause-refused c =
    let p = err_from_is_err_and c.from_residual-in_err-findings.result c.from_residual-in_err-findings.ensures.1 in
    rw (p.1, p.2) tt

pub returns-then-not-is_empty-clause-refused : goal.returns-then-not-is_empty-clause-refused
returns-then-not-is_empty-clause-refused c =
    let opened = c.in_ok-opened.opened in
    let read = c.in_ok-opened.ensures in
    let findings = c.in_ok-findings.findings.items in
    let some : findings ≢ [] = first_of (search rules, grind (arith, common_steps)) in
    rules_refuse c.args.text.now opened.forest read.forest.of_text read.forest.of_grammar read.named (rule_views opened.rules.value.items) read.flawless read.rules findings some c.in_ok-findings.ensures.found

pub returns-clause-rules : goal.returns-clause-rules
returns-clause-rules c =
    let opened = c.in_ok-opened.opened in
    let read = c.in_ok-opened.ensures in
    let views = rule_views opened.rules.value.items in
    let findings = c.in_ok-findings.findings.items in
    let none : findings ≡ [] = first_of (search rules, grind (arith, common_steps)) in
    let nothing = ap findings_of none in
    let accepted = none_found opened.forest views (findings_of findings) read.flawless read.rules nothing c.in_ok-findings.ensures.found (c.in_ok-findings.ensures.accepted nothing) in
    spells_with_spans c.args.text.now opened.forest opened.builtins.items views read.forest.of_text read.forest.of_grammar read.named read.builtins read.rules accepted
