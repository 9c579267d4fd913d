use Rattle.std.proofs.Common.{subst}
use Rattle.base_language.specs.Language.Expression.{comment}
use Rattle.matcher_program.specs.Programs.{IsSkippedRule}
use Rattle.matcher_sets.specs.Forms.{grammar_in}
use Rattle.matcher_compiler.proofs.plan.Plan.comments.Goals as goal

pub no_comments-requires : goal.no_comments-requires
no_comments-requires c =
    record { ready = c.requires.ready; none = subst (IsSkippedRule (grammar_in c.args.program.now) comment) c.in-None.is c.requires.sound.comment_is }
