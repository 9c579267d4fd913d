use Rattle.std.proofs.Common.{IsSomeAnd, rules, string_bytes, subst, sym}
use Rattle.lint_hints.specs.Hints.{IsReplacement}
use Rattle.lint_findings.proofs.Helping.{suggests}
use Rattle.lint_findings.proofs.undefined.did_you_mean.Goals as goal

pub returns : goal.returns
returns c =
    let help = c.in_ok-help.help in
    let replaces = subst (λ f. IsSomeAnd f (IsReplacement c.args.start c.args.end c.args.name.now)) (sym c.in_ok-help.ensures.fix) c.in_ok-fix.ensures.replaces in
    suggests help.fix (string_bytes help.message) c.args.start c.args.end c.args.name.now replaces (search rules)
