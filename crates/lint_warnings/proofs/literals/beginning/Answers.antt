use Rattle.std.proofs.Common.{◌∙◌, sym}
use Rattle.front_spanned.specs.Nodes.{piece_of}
use Rattle.lint_warnings.proofs.Steps.{no_sequence}
use Rattle.lint_warnings.proofs.literals.beginning.Goals as goal

pub returns-in_default : goal.returns-in_default
returns-in_default c =
    c.literal.ensures ∙ (sym (no_sequence (piece_of c.parts.first.now.span) c.parts.first.now.expr c.in_default.not-Seq) ∙ c.parts.invariant)
