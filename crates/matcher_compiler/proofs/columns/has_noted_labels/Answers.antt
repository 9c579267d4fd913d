use Rattle.std.proofs.Common.{◌≡◌, ◌∙◌, ℕ, Some, arith, get_or, inl, subst, sym, true}
use Rattle.std.proofs.lemmas.Grind.{common_steps}
use Rattle.matcher_code.specs.Lists.{lists_of}
use Rattle.matcher_code.specs.Laid.{Notes, Skips}
use Rattle.matcher_code.specs.Reading.{flag}
use Rattle.matcher_compiler.specs.Plans.{ContinuesAs}
use Rattle.matcher_compiler.proofs.Columned.{noted_label, one_more}
use Rattle.matcher_compiler.proofs.columns.has_noted_labels.Goals as goal
use Rattle.matcher_compiler.proofs.columns.has_noted_labels.Goals.{then-columns-byte-eq0+then-not-is_seen+else-not-is_noted_from, then-columns-byte-eq0+else-not-is_seen+else-label-seen_to+else-next-seen_next, else-columns-byte-eq0+else-not-skips}

pub loop-byte-preserved : goal.loop-byte-preserved
loop-byte-preserved c =
    let code = lists_of c.args.code.now in
    let x = c.args.branch in
    let b = c.loop-byte.byte in
    let t = get_or c.args.columns.labels.now b 0 in
    let n = get_or c.args.others.now b 0 in
    let same = c.requires.columns.labels b (omega arith) in
    let flagged = c.requires.columns.flags b (omega arith) in
    let old = c.loop-byte in
    record {
      labels = λ leads e.
          let one : ContinuesAs code x (Some b) t = elim c.if-columns-byte-eq0.branch [
            | then-columns-byte-eq0+then-not-is_seen+else-not-is_noted_from w ↦
                let none : flag code x.set b ≡ 0 = sym flagged ∙ omega (arith, w.if-columns-byte-eq0.true) in
                let k : w.is_noted_from.result ≡ true = grind (arith, common_steps, w.if-not-is_noted_from.false) in
                noted_label code x b t c.requires.noted none (w.is_noted_from.ensures k (Some b) (leads b (omega arith) (omega arith)))
            | then-columns-byte-eq0+else-not-is_seen+else-label-seen_to+else-next-seen_next w ↦
                let none : flag code x.set b ≡ 0 = sym flagged ∙ omega (arith, w.if-columns-byte-eq0.true) in
                let k : old.is_seen ≡ true = grind (arith, common_steps, w.if-not-is_seen.false) in
                let i : old.seen_to ≡ t = omega (arith, w.if-label-seen_to.false) in
                let j : old.seen_next ≡ n = omega (arith, w.if-next-seen_next.false) in
                let led : Skips code (Some b) x.second old.seen_next = subst (λ m. Skips code (Some b) x.second m) (sym j) (leads b (omega arith) (omega arith)) in
                noted_label code x b t c.requires.noted none (subst (λ m. Notes code (Some b) x.second x.next x.on_fail m) i (old.invariant.seen k (Some b) led))
            | else-columns-byte-eq0+else-not-skips w ↦
                let k : w.skips.result ≡ true = grind (arith, common_steps, w.if-not-skips.false) in
                inl (w.skips.ensures e k)
          ] in
          one_more code x c.args.from b (old.invariant.labels leads e) (subst (λ m. ContinuesAs code x (Some b) m) same one);
      seen = elim c.if-columns-byte-eq0.branch [
        | then-columns-byte-eq0+then-not-is_seen+else-not-is_noted_from w ↦ λ s first_set led.
            let k : w.is_noted_from.result ≡ true = grind (arith, common_steps, w.if-not-is_noted_from.false) in
            subst (λ m. Notes code first_set x.second x.next x.on_fail m) (sym w.seen_to-is) (w.is_noted_from.ensures k first_set (subst (λ m. Skips code first_set x.second m) w.seen_next-is led))
        | then-columns-byte-eq0+else-not-is_seen+else-label-seen_to+else-next-seen_next w ↦ λ s first_set led.
            subst (λ m. Notes code first_set x.second x.next x.on_fail m) (sym w.seen_to-is) (old.invariant.seen (sym w.is_seen-is ∙ s) first_set (subst (λ m. Skips code first_set x.second m) w.seen_next-is led))
        | else-columns-byte-eq0+else-not-skips w ↦ λ s first_set led.
            subst (λ m. Notes code first_set x.second x.next x.on_fail m) (sym w.seen_to-is) (old.invariant.seen (sym w.is_seen-is ∙ s) first_set (subst (λ m. Skips code first_set x.second m) w.seen_next-is led))
      ];
    }

pub returns : goal.returns
returns c = λ leads e r b h k. c.loop-byte.invariant.labels leads e b h (omega (arith, k, c.loop-byte-test.false))
