use Rattle.std.proofs.Common.{List, take}
use Rattle.std.specs.Prelude.{flat_map}
use Rattle.lint_findings.specs.Codes.{Warning, warnings_with}
use Rattle.lint_findings.specs.declared.codes.Code.{Code}
use Rattle.lint_findings.proofs.Zips.{codes_done, next_code}
use Rattle.front_spanned.specs.Nodes.{rule_views}
use Rattle.lint_warnings.specs.Lists.{texts_of}
use Rattle.lint_findings.proofs.warnings.diagnose_codes.Goals as goal

pub loop-code-init : goal.loop-code-init
loop-code-init c = rw c.new-diagnostics.ensures.items tt

pub loop-code-preserved : goal.loop-code-preserved
loop-code-preserved c =
    let of : Code → List Warning = λ k. warnings_with (texts_of c.args.starts.now) (rule_views c.args.rules.now) k in
    next_code of c.args.codes.now c.loop-code.code-index _ c.add_code.new.diagnostics.items c.loop-code-test.true
    (c.in_ok-add_code.ensures (flat_map of (take c.loop-code.code-index c.args.codes.now)) c.loop-code.invariant)

pub returns : goal.returns
returns c =
    let of : Code → List Warning = λ k. warnings_with (texts_of c.args.starts.now) (rule_views c.args.rules.now) k in
    codes_done of c.args.codes.now c.loop-code.code-index c.loop-code.diagnostics.items c.loop-code-test.false c.loop-code.invariant
