use Rattle.std.proofs.Common.{[], ◌∷◌, Bor, map, string_bytes, subst, sym}
use Rattle.std.proofs.lemmas.Iterator.{YieldsList-from_slice, YieldsList-from_zip}
use Rattle.std.proofs.lemmas.Iterator.Consumers.{YieldsList-end}
use Rattle.std.proofs.lemmas.List.{map-append}
use Rattle.base_language.specs.declared.grammar.Rule.{Rule}
use Rattle.base_language.specs.declared.runtime.errors.Error.{Error}
use Rattle.lint_findings.specs.declared.diagnostic.Diagnostic.{Diagnostic}
use Rattle.pest_doc.specs.Refusals.{ShowsError}
use Rattle.program_support.specs.Messages.{ArePartsOf}
use Rattle.pest_doc.proofs.Showing.{last_part, pointed}
use Rattle.pest_doc.proofs.messages.show_errors.Goals as goal

pub loop-error-preserved : goal.loop-error-preserved
loop-error-preserved c =
    let yielded = c.loop-error.yielded in
    let pair : Bor (Error Rule) × Bor Diagnostic = (c.in-Some.error, c.in-Some.diagnostic) in
    let shown : ShowsError c.args.name.now (pointed pair) c.as_str.result.now = subst (ShowsError c.args.name.now (pointed pair)) (sym c.as_str.ensures.value) c.in_ok-part.ensures in
    subst (λ pairs. ArePartsOf (ShowsError c.args.name.now) pairs (string_bytes c.push_str.new.self)) (sym (map-append pointed yielded (pair ∷ [])))
    (last_part (ShowsError c.args.name.now) (map pointed yielded) (pointed pair) _ _ _ c.loop-error.invariant shown c.in_ok-push_str.ensures.bytes)

pub returns : goal.returns
returns c =
    let given = YieldsList-from_zip (YieldsList-from_slice c.args.errors.now cc) (YieldsList-from_slice c.args.diagnostics.now cc) in
    let end = YieldsList-end given c.loop-error.yielded _ c.loop-error.yielded_by _ c.next.new.self c.in-None.is c.next.ensures.steps in
    subst (λ pairs. ArePartsOf (ShowsError c.args.name.now) pairs (string_bytes c.loop-error.text)) end.0 c.loop-error.invariant
