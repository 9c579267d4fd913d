use Rattle.std.proofs.Common.{◌≡◌, arith, false}
use Rattle.std.proofs.lemmas.Grind.{common_steps}
use Rattle.matcher_compiler.proofs.Shortening.{fails_before}
use Rattle.matcher_compiler.proofs.shortcuts.outside_first_set.Goals as goal

pub returns : goal.returns
returns c =
    let first_set = c.in-Some.first_set in
    let q : first_set.empty ≡ false = grind (arith, common_steps) in
    let n : first_set.noted ≡ false = grind (arith, common_steps) in
    fails_before c.args.program.now c.args.mode c.args.form.now first_set c.args.ranges.items _ (rw c.in-Some.is at c.in_ok-known.ensures) q n c.in_ok-rest.ensures
