use Rattle.std.proofs.Common.{◌≡◌, arith, true}
use Rattle.std.proofs.lemmas.Grind.{common_steps}
use Rattle.matcher_compiler.proofs.plan.Plan.turns.Goals as goal

pub tight_turns-requires-clause-tight : goal.tight_turns-requires-clause-tight
tight_turns-requires-clause-tight c =
    let t : c.is_tight.result ≡ true = grind (arith, common_steps) in
    c.is_tight.ensures.tight t c.args.program.now c.requires.ready
