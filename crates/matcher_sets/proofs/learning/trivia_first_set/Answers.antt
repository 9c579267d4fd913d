use Rattle.std.proofs.Common.{subst}
use Rattle.std.specs.Prelude.{IfSome}
use Rattle.base_language.specs.Language.Expression.{comment, whitespace}
use Rattle.matcher_program.specs.Programs.{IsSkippedRule}
use Rattle.matcher_sets.specs.Forms.{grammar_in}
use Rattle.matcher_sets.specs.FirstSets.{IsSkipFirstSet}
use Rattle.matcher_sets.proofs.Heading.{if_made}
use Rattle.matcher_sets.proofs.Skipping.{trivia_takes}
use Rattle.matcher_sets.proofs.learning.trivia_first_set.Goals as goal

pub skip_first_set-requires-clause-known : goal.skip_first_set-requires-clause-known
skip_first_set-requires-clause-known c = record { name = whitespace; meant = c.requires.sound.whitespace_is }

pub skip_first_set-requires-2-clause-known : goal.skip_first_set-requires-2-clause-known
skip_first_set-requires-2-clause-known c = record { name = comment; meant = c.requires.sound.comment_is }

pub returns-in-Some-comments : goal.returns-in-Some-comments
returns-in-Some-comments c =
    let p = c.args.program.now in
    let g = grammar_in p in
    let sound = c.requires.sound in
    let b = subst (λ o. IfSome o (λ h. IsSkippedRule g whitespace p.whitespace → IsSkipFirstSet p whitespace h)) c.in-Some.is c.in_ok-blanks.ensures.blank sound.whitespace_is in
    let n = subst (λ o. IfSome o (λ h. IsSkippedRule g comment p.comment → IsSkipFirstSet p comment h)) c.in-Some-comments.is c.in_ok-comments.ensures.note sound.comment_is in
    if_made c.join.result (λ first_set j. trivia_takes p c.in-Some.blank c.in-Some-comments.note first_set b n j) c.join.ensures
