use Rattle.std.proofs.Common.{subst}
use Rattle.std.specs.Prelude.{IfSome}
use Rattle.base_language.specs.Language.State.{Classes}
use Rattle.matcher_sets.specs.Forms.{grammar_in}
use Rattle.matcher_sets.specs.FirstSets.{IsTriviaFirstSet}
use Rattle.matcher_sets.specs.Modes.{mode_of}
use Rattle.matcher_sets.proofs.Heading.{trivia_front, if_made, tight_front}
use Rattle.matcher_sets.proofs.first_sets.front_first_set.Goals as goal

pub returns-then-is_tight : goal.returns-then-is_tight
returns-then-is_tight c = λ p e are x.
    tight_front p (mode_of c.args.mode) e e c.args.first c.requires.empty (λ (classes : Classes). c.is_tight.ensures.tight c.if-is_tight.true (grammar_in p) classes) x

pub returns-in-Some : goal.returns-in-Some
returns-in-Some c =
    if_made c.join.result
    (λ first_set j p e are x. trivia_front p (mode_of c.args.mode) e e c.args.first c.in-Some.trivia.now first_set c.requires.empty (c.is_tight.ensures.loose c.if-is_tight.false) j x
    (subst (λ o. IfSome o (IsTriviaFirstSet p)) c.in-Some.ensures are.trivia)) c.join.ensures
