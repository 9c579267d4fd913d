use Rattle.front_spanned.specs.Nodes.{rule_views}
use Rattle.lint_warnings.specs.Lists.{texts_of}
use Rattle.lint_diagnostics.proofs.Listing.{all_reported}
use Rattle.lint_diagnostics.proofs.warn_of.Goals as goal

pub returns : goal.returns
returns c =
    all_reported c.args.has_all (texts_of c.args.starts.now) c.args.text.now (rule_views c.args.rules.now) c.in_ok-names.names.items c.in_ok-diagnostics.diagnostics.items c.in_ok-others.others.items _
    c.in_ok-names.ensures c.in_ok-diagnostics.ensures (rw c.deref.ensures.value at c.in_ok-others.ensures) c.in_ok-append.ensures.items
