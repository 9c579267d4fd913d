use Rattle.std.proofs.Common.{◌≡◌, ◌∙◌, ◌≢◌, ◌<◌, Some, arith, inl, inr, length, subst, sym}
use Rattle.std.proofs.lemmas.Bool.{cases_lt}
use Rattle.std.proofs.lemmas.Grind.{get_or-set_at}
use Rattle.std.proofs.lemmas.List.{get_or-replicate, get_or-set_other, length-replicate, length-set}
use Rattle.matcher_code.specs.Lists.{lists_of}
use Rattle.matcher_code.specs.Laid.{Skips}
use Rattle.matcher_compiler.proofs.columns.leads_of.Goals as goal

pub loop-byte-init : goal.loop-byte-init
loop-byte-init c = record {
  long = length-replicate 256 c.args.label;
  known = λ e b h k. absurd (omega (arith, h, k));
}

pub loop-byte-preserved : goal.loop-byte-preserved
loop-byte-preserved c =
    let code = lists_of c.args.code.now in
    let i = c.loop-byte.byte in
    let leads = c.loop-byte.leads in
    let r = c.lead_of.result in
    record {
      long = length-set leads i r ∙ c.loop-byte.invariant.long;
      known = λ e b h k. elim (cases_lt b i) [
        | inl l ↦
            let other : b ≢ i = λ q. omega (arith, q, l) in
            subst (λ n. Skips code (Some b) c.args.label n) (sym (get_or-set_other leads i b r 0 other)) (c.loop-byte.invariant.known e b h l)
        | inr m ↦
            let same : i ≡ b = omega (arith, m, k) in
            let within : i < length leads = omega (arith, c.loop-byte.invariant.long, c.loop-byte-test.true, c.requires) in
            subst (λ n. Skips code (Some b) c.args.label n) (sym (get_or-set_at leads i b r 0 (sym same) within))
            (subst (λ a. Skips code (Some a) c.args.label r) same (c.lead_of.ensures e))
      ];
    }

pub returns-then-not-is_test : goal.returns-then-not-is_test
returns-then-not-is_test c = λ e b h k. inl (get_or-replicate 256 b c.args.label 0 (omega (arith, k, c.requires)))

pub returns : goal.returns
returns c = λ e b h k. c.loop-byte.invariant.known e b h (omega (arith, k, c.loop-byte-test.false))
