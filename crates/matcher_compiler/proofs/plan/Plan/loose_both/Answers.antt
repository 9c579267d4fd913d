use Rattle.std.proofs.Common.{subst}
use Rattle.matcher_compiler.specs.Plans.{SkipsAs}
use Rattle.matcher_compiler.proofs.plan.Plan.loose_both.Goals as goal

pub blank_both-requires-clause-none : goal.blank_both-requires-clause-none
blank_both-requires-clause-none c = (subst (λ x. SkipsAs c.args.program.now c.args.self.now.sets x) c.in-Blanks.is c.requires.ready).0

pub blank_both-requires-clause-set : goal.blank_both-requires-clause-set
blank_both-requires-clause-set c = (subst (λ x. SkipsAs c.args.program.now c.args.self.now.sets x) c.in-Blanks.is c.requires.ready).1
