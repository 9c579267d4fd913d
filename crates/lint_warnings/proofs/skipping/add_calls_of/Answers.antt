use Rattle.std.proofs.Common.{◌∙◌, ◌&&◌, ◌||◌, ap, sym, chars}
use Rattle.front_spanned.specs.Nodes.{rule_view}
use Rattle.lint_warnings.specs.Lists.{has_name}
use Rattle.lint_warnings.specs.Rules.{calls_another}
use Rattle.lint_warnings.proofs.skipping.add_calls_of.Goals as goal

pub returns-in_ok-add_calls : goal.returns-in_ok-add_calls
returns-in_ok-add_calls c = λ f known name u.
    c.in_ok-add_calls.ensures name u
    ∙ ap (λ b. has_name c.args.called.now name || (b && calls_another (rule_view c.args.rule.now) (chars name))) (sym (sym (c.skips.ensures f known) ∙ c.if-skips.true))
