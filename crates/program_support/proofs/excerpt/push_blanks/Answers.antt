use Rattle.std.proofs.Common.{◌≡◌, ◌∙◌, ◌++◌, ap, append_assoc, map-id, string_bytes, sym}
use Rattle.std.proofs.lemmas.Iterator.{YieldsList-from_chars}
use Rattle.std.proofs.lemmas.Iterator.Consumers.{YieldsList-end}
use Rattle.std.specs.List.{flat_map}
use Rattle.std.specs.Str.{chars}
use Rattle.program_support.specs.Excerpts.{blanks_below}
use Rattle.program_support.proofs.Escaping.{flat_map_one_more}
use Rattle.program_support.proofs.excerpt.push_blanks.Goals as goal

pub loop-character-preserved : goal.loop-character-preserved
loop-character-preserved c =
    c.in_ok-push_blanks_below.ensures
    ∙ ap (λ t. t ++ blanks_below c.in-Some.character) c.loop-character.invariant
    ∙ append_assoc (string_bytes c.args.out.now) (flat_map blanks_below c.loop-character.yielded) (blanks_below c.in-Some.character)
    ∙ ap (λ t. string_bytes c.args.out.now ++ t) (flat_map_one_more blanks_below c.loop-character.yielded c.in-Some.character)

pub returns : goal.returns
returns c =
    let end = YieldsList-end (YieldsList-from_chars c.args.text.now c.utf8.text cc) c.loop-character.yielded _ c.loop-character.yielded_by _ _ c.in-None.is c.next.ensures.steps in
    let all : c.loop-character.yielded ≡ chars c.args.text.now = sym (map-id c.loop-character.yielded) ∙ end.0 in
    c.loop-character.invariant ∙ ap (λ t. string_bytes c.args.out.now ++ flat_map blanks_below t) all
