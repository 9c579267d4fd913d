use Rattle.std.proofs.Common.{◌≡◌, arith, false, subst, true}
use Rattle.std.proofs.lemmas.Grind.{common_steps}
use Rattle.matcher_compiler.specs.Plans.{SkipsAs}
use Rattle.matcher_compiler.proofs.plan.Plan.trivia.Goals as goal

pub stay-requires : goal.stay-requires
stay-requires c =
    let t : c.is_tight.result ≡ true = grind (arith, common_steps) in
    record { tight = c.is_tight.ensures.tight t c.args.program.now c.requires.ready }

pub skip_blanks-requires : goal.skip_blanks-requires
skip_blanks-requires c =
    let p = c.args.program.now in
    let e : c.is_tight.result ≡ false = grind (arith, common_steps) in
    let r = subst (λ x. SkipsAs p c.args.self.now.sets x) c.in-Blanks.is c.requires.ready in
    record { none = r.0; set = r.1; mode = c.is_tight.ensures.loose e }
