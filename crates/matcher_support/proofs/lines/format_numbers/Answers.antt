use Rattle.std.proofs.Common.{◌≡◌, ◌∙◌, ◌<◌, ◌≤◌, ◌++◌, ◌^◌, ℕ, ap, ap₂, arith, drop, length}
use Rattle.std.specs.Fmt.{decimal}
use Rattle.std.proofs.lemmas.List.{length-replicate}
use Rattle.matcher_support.proofs.LineNumbers.{HasBlank, all_blank, blank_before, blanks_stay, fewer_blanks, short, three_numbers}
use Rattle.matcher_support.proofs.lines.format_numbers.Goals as goal

pub write_digits-third-requires : goal.write_digits-third-requires
write_digits-third-requires c =
    let l : length c.args.blanks.now ≡ 64 = ap length c.requires ∙ length-replicate {A = ℕ} 64 32 in
    (omega (arith, short c.args.depth c.ranges.depth.fits), omega (arith, l))

pub overflow_sub-third : goal.overflow_sub-third
overflow_sub-third c = omega (arith, c.write_digits-third.ensures.start, short c.args.depth c.ranges.depth.fits)

pub write_digits-second-requires : goal.write_digits-second-requires
write_digits-second-requires c =
    let l : length c.args.blanks.now ≡ 64 = ap length c.requires ∙ length-replicate {A = ℕ} 64 32 in
    let d : c.from.result < 2 ^ 64 = omega (arith, c.from.ensures, c.ranges.to.fits) in
    (omega (arith, c.write_digits-third.ensures.start, short c.args.depth c.ranges.depth.fits, short c.from.result d), omega (arith, c.write_digits-third.ensures.start, c.write_digits-third.auto.buf, l))

pub overflow_sub-second : goal.overflow_sub-second
overflow_sub-second c =
    let d : c.from.result < 2 ^ 64 = omega (arith, c.from.ensures, c.ranges.to.fits) in
    omega (arith, c.write_digits-second.ensures.start, c.write_digits-third.ensures.start, short c.args.depth c.ranges.depth.fits, short c.from.result d)

pub write_digits-requires : goal.write_digits-requires
write_digits-requires c =
    let l : length c.args.blanks.now ≡ 64 = ap length c.requires ∙ length-replicate {A = ℕ} 64 32 in
    let d : c.from.result < 2 ^ 64 = omega (arith, c.from.ensures, c.ranges.to.fits) in
    let e : c.from-2.result < 2 ^ 64 = omega (arith, c.from-2.ensures, c.ranges.from.fits) in
    (omega (arith, c.write_digits-second.ensures.start, c.write_digits-third.ensures.start, short c.args.depth c.ranges.depth.fits, short c.from.result d, short c.from-2.result e), omega (arith, c.write_digits-second.ensures.start, c.write_digits-third.ensures.start, c.write_digits-second.auto.buf, c.write_digits-third.auto.buf, l))

pub returns-clause-written : goal.returns-clause-written
returns-clause-written c =
    let l : length c.args.blanks.now ≡ 64 = ap length c.requires ∙ length-replicate {A = ℕ} 64 32 in
    let d : c.from.result < 2 ^ 64 = omega (arith, c.from.ensures, c.ranges.to.fits) in
    let third = c.write_digits-third.result in
    let second = c.write_digits-second.result in
    let b1 = c.write_digits-third.new.buf in
    let b2 = c.write_digits-second.new.buf in
    let t : third ≤ 64 = omega (arith, c.write_digits-third.ensures.start) in
    let p : 0 < third = omega (arith, c.write_digits-third.ensures.start, short c.args.depth c.ranges.depth.fits) in
    let q : 0 < second = omega (arith, c.write_digits-second.ensures.start, c.write_digits-third.ensures.start, short c.args.depth c.ranges.depth.fits, short c.from.result d) in
    let s : second ≤ third = omega (arith, c.write_digits-second.ensures.start) in
    let h1 : HasBlank b1 third = blanks_stay c.args.blanks.now b1 third c.write_digits-third.ensures.before (fewer_blanks c.args.blanks.now 64 third t (all_blank c.args.blanks.now c.requires)) in
    let h2 : HasBlank b2 second = blanks_stay b1 b2 second c.write_digits-second.ensures.before (fewer_blanks b1 third second s h1) in
    let e = c.write_digits-third.ensures.written ∙ ap (λ bs. decimal c.args.depth ++ drop 63 bs) c.requires in
    let f = c.write_digits-second.ensures.written ∙ ap₂ (λ n x. decimal n ++ x) c.from.ensures (blank_before b1 third p (omega (arith, t, c.write_digits-third.auto.buf, l)) h1) in
    let g = c.write_digits.ensures.written ∙ ap₂ (λ n x. decimal n ++ x) c.from-2.ensures (blank_before b2 second q (omega (arith, s, t, c.write_digits-second.auto.buf, c.write_digits-third.auto.buf, l)) h2) in
    three_numbers c.args.from c.args.to c.args.depth (drop third b1) (drop second b2) _ e f g
