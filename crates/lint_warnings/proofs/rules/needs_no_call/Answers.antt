use Rattle.std.proofs.Common.{◌∙◌, ap, chars}
use Rattle.lint_warnings.specs.Rules.{needs_no_call}
use Rattle.lint_warnings.proofs.rules.needs_no_call.Goals as goal

pub returns : goal.returns
returns c = c.is_blank_name.ensures ∙ ap (λ t. needs_no_call (chars t)) c.as_str.ensures.value
