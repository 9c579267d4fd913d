use Rattle.std.proofs.Common.{◌≡◌, ◌∷◌, arith, refl, rules, ap, sym, ◌∙◌, chars, string_bytes}
use Rattle.std.proofs.lemmas.Str.{chars-nil, IsUtf8-string_bytes}
use Rattle.std.specs.Str.{all_scalars}
use Rattle.front_reader.specs.Literal.{unescaped}
use Rattle.front_reader.proofs.Literals.{unescaped_plain, unescaped_escape, scalar_same, scalar_step, character_step}
use Rattle.front_reader.proofs.rules.literal.unescape.Goals as goal

pub loop-c-init : goal.loop-c-init
loop-c-init c = record { utf8 = search rules; reads = rw (c.new-read.ensures.bytes, chars-nil) refl; scalar = refl }

pub loop-c-preserved-then-c-ne92 : goal.loop-c-preserved-then-c-ne92
loop-c-preserved-then-c-ne92 c =
    let e : unescaped (chars c.loop-c.rest.now) ≡ c.in-Some.c ∷ unescaped (chars c.in-Some.after.now) = rw c.in-Some.ensures.parts (unescaped_plain c.in-Some.c (chars c.in-Some.after.now) c.if-c-ne92.true) in
    record {
      utf8 = search rules;
      reads = character_step _ _ (string_bytes c.loop-c.read) _ _ (IsUtf8-string_bytes c.loop-c.read) c.in-Some.ensures.scalar (rw (← e) c.loop-c.invariant.reads) c.in_ok-push.ensures.bytes;
      scalar = c.loop-c.invariant.scalar ∙ ap all_scalars e ∙ scalar_step c.in-Some.c (unescaped (chars c.in-Some.after.now)) c.in-Some.ensures.scalar;
    }

pub loop-c-smaller : goal.loop-c-smaller
loop-c-smaller c = omega (arith, c.in-Some.ensures.shorter, c.in-Some-escape.ensures.shorter)

pub loop-c-preserved : goal.loop-c-preserved
loop-c-preserved c =
    let n = c.in-Some-escape.ensures.names in
    let v = c.in-Some-from_u32.ensures.value in
    let k = scalar_same _ _ v.0 n.1 in
    let e : unescaped (chars c.loop-c.rest.now) ≡ c.in-Some-from_u32.c ∷ unescaped (chars c.in-Some-escape.after.now) =
    rw c.in-Some.ensures.parts (unescaped_escape c.in-Some.c (chars c.in-Some.after.now) c.if-c-ne92.false ∙ n.2 ∙ ap (λ m. m ∷ unescaped (chars c.in-Some-escape.after.now)) (sym k ∙ sym v.1)) in
    let s = rw (← v.1) at v.0 in
    record {
      utf8 = search rules;
      reads = character_step _ _ (string_bytes c.loop-c.read) _ _ (IsUtf8-string_bytes c.loop-c.read) s (rw (← e) c.loop-c.invariant.reads) c.in_ok-push-2.ensures.bytes;
      scalar = c.loop-c.invariant.scalar ∙ ap all_scalars e ∙ scalar_step c.in-Some-from_u32.c (unescaped (chars c.in-Some-escape.after.now)) s;
    }
