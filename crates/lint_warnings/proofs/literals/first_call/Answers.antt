use Rattle.std.proofs.Common.{◌∙◌, sym}
use Rattle.front_spanned.specs.Nodes.{piece_of}
use Rattle.lint_warnings.proofs.Steps.{no_first_call}
use Rattle.lint_warnings.proofs.literals.first_call.Goals as goal

pub returns-in_default : goal.returns-in_default
returns-in_default c =
    c.call.ensures ∙ (sym (no_first_call (piece_of c.parts.first.now.span) c.parts.first.now.expr c.in_default.not-Seq) ∙ c.parts.invariant)
