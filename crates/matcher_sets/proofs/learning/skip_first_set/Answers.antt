use Rattle.std.proofs.Common.{◌≡◌, arith, false, subst}
use Rattle.std.proofs.lemmas.Grind.{common_steps}
use Rattle.base_language.specs.Language.Expression.{comment, whitespace}
use Rattle.matcher_program.specs.Programs.{IsSkippedRule}
use Rattle.matcher_sets.specs.Forms.{grammar_in}
use Rattle.matcher_sets.proofs.Skipping.{comment_is_skipped, no_blank, no_comment, skipped_fails, skipped_is_rule, white_is_skipped}
use Rattle.matcher_sets.proofs.learning.skip_first_set.Goals as goal

pub call_first_set-requires-clause-meant : goal.call_first_set-requires-clause-meant
call_first_set-requires-clause-meant c =
    let p = c.args.program.now in
    let k = c.requires.known in
    skipped_is_rule p k.name c.in-Some.number (subst (IsSkippedRule (grammar_in p) k.name) c.in-Some.is k.meant)

pub returns-in-None-clause-blank : goal.returns-in-None-clause-blank
returns-in-None-clause-blank c = λ k.
    let p = c.args.program.now in
    record { fails = λ classes fits. no_blank p _ classes (subst (IsSkippedRule (grammar_in p) whitespace) c.in-None.is k) }

pub returns-in-None-clause-note : goal.returns-in-None-clause-note
returns-in-None-clause-note c = λ k.
    let p = c.args.program.now in
    record { fails = λ classes fits. no_comment p _ classes (subst (IsSkippedRule (grammar_in p) comment) c.in-None.is k) }

pub returns-else-first_set-clause-blank : goal.returns-else-first_set-clause-blank
returns-else-first_set-clause-blank c = λ k.
    let p = c.args.program.now in
    let q : c.in-Some-made.first_set.empty ≡ false = grind (arith, common_steps) in
    skipped_fails p whitespace c.in-Some.number (subst (IsSkippedRule (grammar_in p) whitespace) c.in-Some.is k) white_is_skipped c.in-Some-made.first_set
    (rw c.in-Some-made.is at c.in_ok-made.ensures) q

pub returns-else-first_set-clause-note : goal.returns-else-first_set-clause-note
returns-else-first_set-clause-note c = λ k.
    let p = c.args.program.now in
    let q : c.in-Some-made.first_set.empty ≡ false = grind (arith, common_steps) in
    skipped_fails p comment c.in-Some.number (subst (IsSkippedRule (grammar_in p) comment) c.in-Some.is k) comment_is_skipped c.in-Some-made.first_set
    (rw c.in-Some-made.is at c.in_ok-made.ensures) q
