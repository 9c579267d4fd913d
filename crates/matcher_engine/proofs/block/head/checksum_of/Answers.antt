use Rattle.std.proofs.Common.{◌≡◌, ◌∙◌, ◌+◌, ◌<◌, List, [], ◌∷◌, ap, arith, get_or, length, refl, suc, sym, take, ℕ}
use Rattle.std.proofs.Math.Seq.{take-length, take-suc}
use Rattle.std.proofs.lemmas.List.Sums.{fold_push}
use Rattle.matcher_engine.specs.Blocks.{next_checksum, checksum_of}
use Rattle.matcher_engine.proofs.block.head.checksum_of.Goals as goal

-- the checksum with one more byte
one_more : (bytes : List ℕ) (i checksum : ℕ) → i < length bytes → checksum ≡ checksum_of (take i bytes)
    → next_checksum checksum (get_or bytes i 0) ≡ checksum_of (take (i + 1) bytes)
unfolding checksum_of
one_more bytes i checksum l e =
    let next : suc i ≡ i + 1 = omega arith in
    ap (λ s. next_checksum s (get_or bytes i 0)) e
    ∙ (sym (fold_push next_checksum 14695981039346656037 (take i bytes) (get_or bytes i 0))
    ∙ (ap checksum_of (sym (take-suc bytes i 0 l)) ∙ ap (λ k. checksum_of (take k bytes)) next))

-- the checksum of no bytes
none : (bytes : List ℕ) → 14695981039346656037 ≡ checksum_of (take 0 bytes)
unfolding checksum_of
none [] = refl
none (b ∷ bytes) = refl

pub loop-byte-init : goal.loop-byte-init
loop-byte-init c = none c.args.bytes.now

pub loop-byte-preserved : goal.loop-byte-preserved
loop-byte-preserved c =
    ap (λ b. next_checksum c.loop-byte.checksum b) c.from.ensures
    ∙ one_more c.args.bytes.now c.loop-byte.byte-index c.loop-byte.checksum c.loop-byte-test.true c.loop-byte.invariant

pub returns : goal.returns
returns c =
    let bytes = c.args.bytes.now in
    let all : c.loop-byte.byte-index ≡ length bytes = omega (arith, c.loop-byte-test.false, c.loop-byte.auto.byte-index-end) in
    c.loop-byte.invariant ∙ (ap (λ k. checksum_of (take k bytes)) all ∙ ap checksum_of (take-length bytes))
