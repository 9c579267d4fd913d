use Rattle.std.proofs.Common.{◌≡◌, arith, false, true}
use Rattle.std.proofs.lemmas.Grind.{common_steps}
use Rattle.matcher_compiler.proofs.plan.Plan.two.Goals as goal

pub tight_both-requires-clause-tight : goal.tight_both-requires-clause-tight
tight_both-requires-clause-tight c =
    let t : c.is_tight.result ≡ true = grind (arith, common_steps) in
    c.is_tight.ensures.tight t c.args.program.now c.requires.ready

pub loose_both-requires-clause-mode : goal.loose_both-requires-clause-mode
loose_both-requires-clause-mode c =
    let e : c.is_tight.result ≡ false = grind (arith, common_steps) in
    c.is_tight.ensures.loose e
