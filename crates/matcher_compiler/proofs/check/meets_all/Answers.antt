use Rattle.std.proofs.Common.{◌≡◌, arith, true}
use Rattle.std.proofs.lemmas.Grind.{common_steps}
use Rattle.matcher_code.specs.Lists.{lists_of}
use Rattle.matcher_compiler.proofs.Finishing.{one_demand}
use Rattle.matcher_compiler.proofs.check.meets_all.Goals as goal

pub loop-demand-preserved : goal.loop-demand-preserved
loop-demand-preserved c =
    let t : c.meets.result ≡ true = grind (arith, common_steps) in
    one_demand (lists_of c.args.code.now) c.args.points.now c.args.demands.now c.loop-demand.demand-index _ (grind (arith, common_steps)) c.loop-demand.invariant (c.meets.ensures t)
