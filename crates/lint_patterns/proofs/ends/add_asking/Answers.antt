use Rattle.std.proofs.Common.{◌∙◌, ap, sym, chars}
use Rattle.front_spanned.specs.Nodes.{rule_view}
use Rattle.lint_warnings.specs.Lists.{has_name}
use Rattle.lint_warnings.proofs.Reached.{name_if, name_unless}
use Rattle.lint_patterns.proofs.ends.add_asking.Goals as goal

pub returns-in_ok-add_name : goal.returns-in_ok-add_name
returns-in_ok-add_name c = λ f known name u.
    name_if (has_name c.args.names.now name) (chars c.as_str.result.now) (rule_view c.args.rule.now).name (chars name) _ _ (ap chars c.as_str.ensures.value) (sym (c.in_ok-asks_end.ensures f known) ∙ c.if-branch.true) (c.in_ok-add_name.ensures name u)

pub returns-else-branch : goal.returns-else-branch
returns-else-branch c = λ f known name u.
    name_unless (has_name c.args.names.now name) (rule_view c.args.rule.now).name (chars name) _ (sym (c.in_ok-asks_end.ensures f known) ∙ c.if-branch.false)
