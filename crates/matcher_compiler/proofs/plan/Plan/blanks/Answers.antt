use Rattle.std.proofs.Common.{subst}
use Rattle.matcher_compiler.specs.Plans.{SkipsAs}
use Rattle.matcher_compiler.proofs.plan.Plan.blanks.Goals as goal

pub blanks_of-requires : goal.blanks_of-requires
blanks_of-requires c =
    let r = subst (λ x. SkipsAs c.args.program.now c.args.self.now.sets x) c.in-Blanks.is c.requires.ready in
    record { set = r.1 }

pub blanks_of-requires-in-Comments : goal.blanks_of-requires-in-Comments
blanks_of-requires-in-Comments c =
    let r = subst (λ x. SkipsAs c.args.program.now c.args.self.now.sets x) c.in-Comments.is c.requires.ready in
    record { set = r }
