use Rattle.std.proofs.Common.{subst, sym}
use Rattle.base_language.specs.Language.Expression.{comment, whitespace}
use Rattle.matcher_program.specs.Programs.{IsSkippedRule}
use Rattle.matcher_sets.specs.Forms.{grammar_in}
use Rattle.matcher_compiler.specs.Plans.{SkipsAs}
use Rattle.matcher_compiler.proofs.Skipping.{tight_nowhere}
use Rattle.matcher_compiler.proofs.compile.plain_plan.Goals as goal

pub returns-clause-ready : goal.returns-clause-ready
returns-clause-ready c =
    let p = c.args.program.now in
    let w = subst (IsSkippedRule (grammar_in p) whitespace) c.requires.white c.requires.sound.whitespace_is in
    let m = subst (IsSkippedRule (grammar_in p) comment) c.requires.note c.requires.sound.comment_is in
    subst (λ b. SkipsAs p c.in_ok-plan.plan.sets b) (sym c.in_ok-plan.ensures.skips) (λ classes. tight_nowhere (grammar_in p) classes w m)
