use Rattle.std.proofs.Common.{◌≡◌, arith, true}
use Rattle.std.proofs.lemmas.Grind.{common_steps}
use Rattle.matcher_compiler.proofs.compile.compare.Goals as goal

pub returns-then-meets_all-clause-met : goal.returns-then-meets_all-clause-met
returns-then-meets_all-clause-met c =
    let t : c.meets_all.result ≡ true = grind (arith, common_steps) in
    c.meets_all.ensures t
