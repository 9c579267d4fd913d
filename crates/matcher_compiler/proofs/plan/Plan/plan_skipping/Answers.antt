use Rattle.std.proofs.Common.{subst}
use Rattle.matcher_compiler.specs.Plans.{SkipsAs}
use Rattle.matcher_compiler.proofs.plan.Plan.plan_skipping.Goals as goal

pub blanks_of_set-requires-clause-set : goal.blanks_of_set-requires-clause-set
blanks_of_set-requires-clause-set c = subst (λ x. SkipsAs c.args.program.now c.args.self.now.sets x) c.in-Comments.is c.requires.ready
