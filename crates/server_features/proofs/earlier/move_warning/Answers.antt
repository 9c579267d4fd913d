use Rattle.std.proofs.Common.{◌∙◌, All, refl, subst}
use Rattle.server_features.specs.Earlier.{IsMovedAmong}
use Rattle.server_features.proofs.earlier.move_warning.Goals as goal

pub returns : goal.returns
returns c =
    let before = c.args.moves.now.earlier.now in
    let after = c.args.moves.now.text.now in
    record {
      warns = c.requires.warning;
      severity = refl;
      code = refl;
      message = c.in_ok-from_str.ensures.ok ∙ c.as_str.ensures.value;
      help = c.in_ok-help_of.ensures;
      place = c.requires.moved;
      related = subst (λ parts. All (IsMovedAmong before after parts) c.in_ok-move_parts.field-0.items) c.deref.ensures.value c.in_ok-move_parts.ensures;
    }
