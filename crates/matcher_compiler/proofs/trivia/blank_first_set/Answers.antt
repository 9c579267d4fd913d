use Rattle.base_language.specs.Language.Expression.{whitespace}
use Rattle.matcher_sets.proofs.Skipping.{skipped_fails, skipped_is_rule, white_is_skipped}
use Rattle.matcher_compiler.proofs.Skipping.{both_on_some, white_meant}
use Rattle.matcher_compiler.proofs.trivia.blank_first_set.Goals as goal

pub sure_first_set-requires-clause-meant : goal.sure_first_set-requires-clause-meant
sure_first_set-requires-clause-meant c =
    let p = c.args.program.now in
    skipped_is_rule p whitespace c.in-Some.rule (white_meant p c.in-Some.rule c.requires.sound c.in-Some.is)

pub returns-in-Some : goal.returns-in-Some
returns-in-Some c =
    let p = c.args.program.now in
    both_on_some c.sure_first_set.result (λ h has takes. (skipped_fails p whitespace c.in-Some.rule (white_meant p c.in-Some.rule c.requires.sound c.in-Some.is) white_is_skipped h has takes).fails) c.sure_first_set.ensures.first_set c.sure_first_set.ensures.takes
