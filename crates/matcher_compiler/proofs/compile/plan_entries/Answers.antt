use Rattle.std.proofs.Common.{◌<◌, arith, length}
use Rattle.std.proofs.lemmas.Grind.{common_steps}
use Rattle.matcher_compiler.proofs.Finishing.{entries_more}
use Rattle.matcher_compiler.proofs.Growing.{later_twice}
use Rattle.matcher_compiler.proofs.compile.plan_entries.Goals as goal

pub loop-rule-preserved : goal.loop-rule-preserved
loop-rule-preserved c =
    let p = c.args.program.now in
    let within : c.loop-rule.rule < length p.rules.items = grind (arith, common_steps) in
    let later = c.in_ok-point.ensures.later p within in
    record {
      later = later_twice p _ _ _ c.loop-rule.invariant.later later;
      has = entries_more p _ _ c.loop-rule.rule later c.loop-rule.invariant.has (λ code laid m. (c.in_ok-point.ensures.has p code laid m).point);
    }
