use Rattle.std.proofs.Common.{◌≡◌, ap, sym, ◌∙◌, encode_utf8_all, map-id, refl}
use Rattle.std.proofs.lemmas.Iterator.{YieldsList-from_chars}
use Rattle.std.proofs.lemmas.Iterator.Consumers.{YieldsList-end}
use Rattle.std.specs.List.{flat_map}
use Rattle.std.specs.Str.{chars}
use Rattle.program_support.proofs.Escaping.{one_more}
use Rattle.lint_output.specs.Annotations.{property_part}
use Rattle.lint_output.proofs.github.escape_property.Goals as goal

pub loop-character-preserved : goal.loop-character-preserved
loop-character-preserved c =
    one_more property_part _ _ c.loop-character.yielded c.in-Some.character _ c.loop-character.invariant
    c.in_ok-push_property_part.ensures refl

pub returns : goal.returns
returns c =
    let end = YieldsList-end (YieldsList-from_chars c.args.text.now c.utf8.text cc) c.loop-character.yielded _ c.loop-character.yielded_by _ _ c.in-None.is c.next.ensures.steps in
    let all : c.loop-character.yielded ≡ chars c.args.text.now = sym (map-id c.loop-character.yielded) ∙ end.0 in
    c.loop-character.invariant ∙ ap (λ t. encode_utf8_all (flat_map property_part t)) all
