use Rattle.base_language.specs.Language.Expression.{comment}
use Rattle.matcher_sets.proofs.Skipping.{comment_is_skipped, skipped_is_rule}
use Rattle.matcher_compiler.proofs.Skipping.{comment_meant, skipped_laid}
use Rattle.matcher_compiler.proofs.Naming.{rule_within}
use Rattle.matcher_compiler.specs.Exact.{is_exact}
use Rattle.matcher_compiler.specs.Names.{number_in}
use Rattle.matcher_sets.specs.Forms.{grammar_in}
use Rattle.matcher_compiler.proofs.plan.Plan.comment_call.Goals as goal

pub call-requires-clause-within : goal.call-requires-clause-within
call-requires-clause-within c =
    let p = c.args.program.now in
    rule_within p.rules.items _ c.in-Some.rule (skipped_is_rule p comment c.in-Some.rule (comment_meant p c.in-Some.rule c.requires.sound c.in-Some.is))

pub returns-clause-lays : goal.returns-clause-lays
returns-clause-lays c = λ classes fits code laid m.
    let p = c.args.program.now in
    skipped_laid p comment c.in-Some.rule (comment_meant p c.in-Some.rule c.requires.sound c.in-Some.is) comment_is_skipped (is_exact code) classes code
    (number_in (grammar_in p)) laid (c.in_ok-call.ensures.lays classes fits code laid m)
