use Rattle.std.proofs.Common.{◌≡◌, arith, true}
use Rattle.std.proofs.lemmas.Grind.{common_steps}
use Rattle.matcher_sets.proofs.Heading.{takes_none}
use Rattle.matcher_compiler.proofs.firsts.spare_first_set.Goals as goal

pub returns-then-not-is_wide : goal.returns-then-not-is_wide
returns-then-not-is_wide c =
    let q : c.in-Some.first_set.empty ≡ true = grind (arith, common_steps) in
    takes_none c.args.program.now _ _ c.in-Some.first_set (rw c.in-Some.is at c.in_ok-made.ensures) q
