use Rattle.lint_findings.specs.declared.codes.Code.TheVariants as code
use Rattle.lint_findings.proofs.Telling.{first_told, none_told}
use Rattle.lint_findings.proofs.choices.add_choice.Goals as goal

pub returns : goal.returns
returns c = λ earlier all.
    let r = c.in_ok-diagnostic.ensures in
    first_told code.Unreachable earlier c.args.diagnostics.now.items c.push.new.self.items c.args.choice.now.spans.items c.in-Some.first.now _
    (rw c.deref.ensures.value at (rw c.in-Some.is at c.first.ensures.value))
    (record { severity = r.severity; code = r.code; message = r.message; start = r.start; end = r.end })
    c.in_ok-push.ensures.items all

pub returns-in_default : goal.returns-in_default
returns-in_default c = λ earlier all.
    none_told code.Unreachable earlier c.args.diagnostics.now.items c.args.choice.now.spans.items
    (rw c.deref.ensures.value at (rw c.in_default.is at c.first.ensures.value)) all
