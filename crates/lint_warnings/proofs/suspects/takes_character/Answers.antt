use Rattle.std.proofs.Common.{◌∙◌, sym}
use Rattle.front_spanned.specs.Nodes.{piece_of}
use Rattle.lint_warnings.proofs.Suspicious.{no_first_part}
use Rattle.lint_warnings.proofs.suspects.takes_character.Goals as goal

pub returns-in_default : goal.returns-in_default
returns-in_default c =
    c.is_character.ensures ∙ (sym (no_first_part (piece_of c.parts.first.now.span) c.parts.first.now.expr c.in_default.not-Seq) ∙ c.parts.invariant)
