use Rattle.std.proofs.Common.{◌≡◌, arith, false}
use Rattle.std.proofs.lemmas.Grind.{common_steps}
use Rattle.matcher_sets.proofs.Heading.{fails_outside}
use Rattle.matcher_compiler.proofs.firsts.narrow_first_set.Goals as goal
use Rattle.matcher_compiler.proofs.firsts.narrow_first_set.Goals.{else-first_set, then-first_set}

pub returns-else-is_wide : goal.returns-else-is_wide
returns-else-is_wide c =
    let q : c.in-Some.first_set.empty ≡ false = elim c.if-first_set.branch [
      | then-first_set w ↦ grind (arith, common_steps)
      | else-first_set w ↦ grind (arith, common_steps)
    ] in
    fails_outside c.args.program.now _ _ c.in-Some.first_set (rw c.in-Some.is at c.in_ok-made.ensures) q
