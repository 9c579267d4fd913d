use Rattle.std.proofs.Common.{◌∙◌, ap}
use Rattle.lint_warnings.proofs.Sets.{name_characters}
use Rattle.lint_warnings.proofs.rules.has_builtin.Goals as goal

pub returns : goal.returns
returns c = λ f known. c.contains.ensures ∙ (known c.name.result.now c.name.utf8 ∙ ap f (name_characters c.args.builtin c.name.result.now c.name.ensures))
