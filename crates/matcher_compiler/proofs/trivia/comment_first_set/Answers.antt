use Rattle.base_language.specs.Language.Expression.{comment}
use Rattle.matcher_sets.proofs.Skipping.{comment_is_skipped, skipped_fails, skipped_is_rule}
use Rattle.matcher_compiler.proofs.Skipping.{both_on_some, comment_fails, comment_meant}
use Rattle.matcher_compiler.proofs.trivia.comment_first_set.Goals as goal

pub sure_first_set-requires-clause-meant : goal.sure_first_set-requires-clause-meant
sure_first_set-requires-clause-meant c =
    let p = c.args.program.now in
    skipped_is_rule p comment c.in-Some.rule (comment_meant p c.in-Some.rule c.requires.sound c.in-Some.is)

pub returns-in-Some : goal.returns-in-Some
returns-in-Some c =
    let p = c.args.program.now in
    both_on_some c.sure_first_set.result (λ h has takes. comment_fails p h (skipped_fails p comment c.in-Some.rule (comment_meant p c.in-Some.rule c.requires.sound c.in-Some.is) comment_is_skipped h has takes).fails) c.sure_first_set.ensures.first_set c.sure_first_set.ensures.takes
