use Rattle.std.proofs.Common.{◌∙◌, ap, sym, chars}
use Rattle.lint_warnings.specs.Lists.{texts_of}
use Rattle.lint_warnings.proofs.Reached.{name_pushed}
use Rattle.lint_warnings.proofs.skipping.add_root.Goals as goal

pub returns-in_ok-push : goal.returns-in_ok-push
returns-in_ok-push c = λ f known.
    ap texts_of c.in_ok-push.ensures.items
    ∙ name_pushed c.args.roots.now.items c.as_str.result _ _ (ap chars c.as_str.ensures.value) (sym (c.in_ok-is_root.ensures f known) ∙ c.if-branch.true)
