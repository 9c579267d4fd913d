use Rattle.std.proofs.Common.{◌≡◌, ap, sym, ◌∙◌, encode_utf8_all, map-id}
use Rattle.std.proofs.lemmas.Iterator.{YieldsList-from_chars}
use Rattle.std.proofs.lemmas.Iterator.Consumers.{YieldsList-end}
use Rattle.std.specs.List.{flat_map}
use Rattle.std.specs.Str.{chars}
use Rattle.program_support.specs.Escapes.{is_hidden_in_lines, shown_character}
use Rattle.program_support.proofs.Escaping.{one_more}
use Rattle.program_support.proofs.escape.escape_lines.Goals as goal

pub loop-character-preserved : goal.loop-character-preserved
loop-character-preserved c =
    one_more (λ c. shown_character (is_hidden_in_lines c) c) _ _ c.loop-character.yielded c.in-Some.character _ c.loop-character.invariant c.in_ok-push_shown.ensures
    (ap (λ b. shown_character b c.in-Some.character) c.is_hidden_in_lines.ensures)

pub returns : goal.returns
returns c =
    let end = YieldsList-end (YieldsList-from_chars c.args.text.now c.utf8.text cc) c.loop-character.yielded _ c.loop-character.yielded_by _ _ c.in-None.is c.next.ensures.steps in
    let all : c.loop-character.yielded ≡ chars c.args.text.now = sym (map-id c.loop-character.yielded) ∙ end.0 in
    c.loop-character.invariant ∙ ap (λ t. encode_utf8_all (flat_map (λ c. shown_character (is_hidden_in_lines c) c) t)) all
