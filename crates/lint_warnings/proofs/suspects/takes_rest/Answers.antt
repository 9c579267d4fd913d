use Rattle.std.proofs.Common.{◌∙◌, sym}
use Rattle.front_spanned.specs.Nodes.{piece_of}
use Rattle.lint_warnings.proofs.Suspicious.{no_last_part}
use Rattle.lint_warnings.proofs.suspects.takes_rest.Goals as goal

pub returns-in_default : goal.returns-in_default
returns-in_default c =
    c.repeats_any.ensures ∙ (sym (no_last_part (piece_of c.parts.last.now.span) c.parts.last.now.expr c.in_default.not-Seq) ∙ c.parts.invariant)
