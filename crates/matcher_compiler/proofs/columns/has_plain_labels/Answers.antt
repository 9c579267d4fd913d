use Rattle.std.proofs.Common.{◌≡◌, ◌∙◌, ℕ, Some, arith, get_or, inl, inr, subst, sym, true}
use Rattle.std.proofs.lemmas.Grind.{common_steps}
use Rattle.matcher_code.specs.Lists.{lists_of}
use Rattle.matcher_code.specs.Laid.{Skips}
use Rattle.matcher_code.specs.Reading.{flag}
use Rattle.matcher_compiler.specs.Plans.{ContinuesAs}
use Rattle.matcher_compiler.proofs.Columned.{one_more, plain_label}
use Rattle.matcher_compiler.proofs.columns.has_plain_labels.Goals as goal
use Rattle.matcher_compiler.proofs.columns.has_plain_labels.Goals.{then-columns-byte-eq0+else-label-others, else-label-others-via-then-label-others+else-label-branch, else-label-others-via-else-label-others, else-columns-byte-eq0+else-not-skips}

pub loop-byte-preserved : goal.loop-byte-preserved
loop-byte-preserved c = λ leads e.
    let code = lists_of c.args.code.now in
    let x = c.args.branch in
    let b = c.loop-byte.byte in
    let t = get_or c.args.columns.labels.now b 0 in
    let same = c.requires.columns.labels b (omega arith) in
    let one : ContinuesAs code x (Some b) t = elim c.if-columns-byte-eq0.branch [
      | then-columns-byte-eq0+else-label-others w ↦
          let none : flag code x.set b ≡ 0 = sym (c.requires.columns.flags b (omega arith)) ∙ omega (arith, w.if-columns-byte-eq0.true) in
          let led : Skips code (Some b) x.second t = elim w.else-label-others.branch [
            | else-label-others-via-then-label-others+else-label-branch v ↦
                let k : t ≡ x.second = omega (arith, v.if-label-branch.false) in
                inl k
            | else-label-others-via-else-label-others v ↦
                let k : t ≡ get_or c.args.others.now b 0 = omega (arith, v.if-label-others.false) in
                subst (λ n. Skips code (Some b) x.second n) (sym k) (leads b (omega arith) (omega arith))
          ] in
          plain_label code x b t c.requires.plain none led
      | else-columns-byte-eq0+else-not-skips w ↦
          let k : w.skips.result ≡ true = grind (arith, common_steps, w.if-not-skips.false) in
          inl (w.skips.ensures e k)
    ] in
    one_more code x c.args.from b (c.loop-byte.invariant leads e) (subst (λ n. ContinuesAs code x (Some b) n) same one)

pub returns : goal.returns
returns c = λ leads e r b h k. c.loop-byte.invariant leads e b h (omega (arith, k, c.loop-byte-test.false))
