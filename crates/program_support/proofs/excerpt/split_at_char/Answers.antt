use Rattle.std.proofs.Common.{◌≡◌, ◌∙◌, ◌-◌, ◌≤◌, ◌<◌, ◌^◌, ℕ, ap, arith, encode_utf8_all, length, map-id, min, rules, subst, sym, take}
use Rattle.std.proofs.Math.Nat.{min-eq_left}
use Rattle.std.proofs.lemmas.Iterator.{YieldsList-from_chars, YieldsList-from_take}
use Rattle.std.proofs.lemmas.Iterator.Consumers.{YieldsList-at, YieldsList-end}
use Rattle.std.specs.Str.{IsCharBoundary, chars}
use Rattle.program_support.proofs.Splitting.{boundary_after, bytes_before, chars_before}
use Rattle.program_support.proofs.excerpt.split_at_char.Goals as goal

pub returns-clause-first : goal.returns-clause-first
returns-clause-first c =
    let text = c.args.text.now in
    let count = c.args.count in
    let items = YieldsList-at (cc) (YieldsList-from_take count (YieldsList-at c.take-character-items.ensures.source (YieldsList-from_chars text c.utf8.text cc)) c.take-character-items.ensures.count) in
    let end = YieldsList-end items c.loop-character.yielded _ c.loop-character.yielded_by _ _ c.in-None.is c.next.ensures.steps in
    let all : c.loop-character.yielded ≡ take count (chars text) = sym (map-id c.loop-character.yielded) ∙ end.0 in
    let short : length (encode_utf8_all (take count (chars text))) ≤ 2 ^ 64 - 1 = omega (arith, bytes_before text count c.utf8.text) in
    let bytes : c.loop-character.byte ≡ length (encode_utf8_all (take count (chars text))) =
    c.loop-character.invariant ∙ ap (λ t. min (length (encode_utf8_all t)) (2 ^ 64 - 1)) all ∙ min-eq_left short in
    let at_boundary : IsCharBoundary text c.loop-character.byte = subst (IsCharBoundary text) (sym bytes) (boundary_after text count c.utf8.text) in
    ap chars (c.split_at_byte.ensures.first at_boundary ∙ ap (λ n. take n text) bytes) ∙ chars_before text count c.utf8.text
