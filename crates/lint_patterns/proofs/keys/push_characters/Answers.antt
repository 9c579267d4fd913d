use Rattle.std.proofs.Common.{◌≡◌, ◌∙◌, ◌+◌, [], ◌∷◌, ◌++◌, ap, sym, map, map-id, append_assoc}
use Rattle.std.proofs.lemmas.Iterator.{YieldsList-from_chars}
use Rattle.std.proofs.lemmas.Iterator.Consumers.{YieldsList-end}
use Rattle.std.specs.Str.{chars}
use Rattle.lint_patterns.specs.Keys.{text_key}
use Rattle.lint_patterns.proofs.Unique.{characters_key}
use Rattle.lint_patterns.proofs.keys.push_characters.Goals as goal

pub returns : goal.returns
returns c =
    let yielded = c.loop-character.yielded in
    let old = c.args.key.now.items in
    let end = YieldsList-end (YieldsList-from_chars c.args.text.now c.utf8.text cc) yielded _ c.loop-character.yielded_by _ _ c.in-None.is c.next.ensures.steps in
    let all : yielded ≡ chars c.args.text.now = sym (map-id yielded) ∙ end.0 in
    c.in_ok-push-2.ensures.items
    ∙ (ap (λ k. k ++ 0 ∷ []) c.loop-character.invariant
    ∙ (append_assoc old (map (λ x. x + 1) yielded) (0 ∷ []) ∙ ap (λ l. old ++ l) (characters_key yielded ∙ ap text_key all)))
