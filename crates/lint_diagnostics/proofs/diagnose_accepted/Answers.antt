use Rattle.std.proofs.Common.{map}
use Rattle.front_spanned.specs.Nodes.{rule_views}
use Rattle.lint_findings.specs.Fragments.{fragment_of}
use Rattle.lint_warnings.specs.Lists.{texts_of}
use Rattle.lint_diagnostics.proofs.Diagnosing.{of_rules}
use Rattle.lint_diagnostics.proofs.diagnose_accepted.Goals as goal

pub returns : goal.returns
returns c =
    of_rules c.args.has_all (texts_of c.args.starts.now) c.args.text.now (rule_views c.args.rules.now) (map fragment_of c.in_ok-stated.stated.items) c.in_ok-diagnostics.diagnostics.items c.in_ok-warnings.warnings.items c.in_ok-left.left.items _
    c.requires c.in_ok-stated.ensures (rw c.deref.ensures.value at (c.in_ok-diagnostics.ensures c.args.text.now))
    (rw c.deref-2.ensures.value at c.in_ok-warnings.ensures) c.in_ok-left.ensures c.in_ok-append.ensures.items
