-- Runs that are asked one after another.
use Rattle.std.proofs.Common.{◌≡◌, sym, ◌∙◌, ap, subst, ℕ, Ok, Err, false, map}
use Rattle.std.specs.Prelude.{IsErrAnd, Result}
use Rattle.base_language.specs.Language.Expression.{Grammar, Ident}
use Rattle.base_language.specs.Language.Meaning.{Run}
use Rattle.base_language.specs.Language.State.{Classes, NonAtomicMode, State}
use Rattle.base_language.specs.Language.Text.{Text}
use Rattle.matcher_code.specs.Attempts.{attempts_at, place_from}
use Rattle.matcher_code.proofs.OneDerivation.{Answer, one_answer}
use Rattle.matcher_program.specs.Answers.{IsStoppedFrom}
use Rattle.matcher_program.specs.declared.answers.Stop.{Stop}
use Rattle.matcher_program.specs.declared.form.Program.{Program}
use Rattle.matcher_sets.specs.Forms.{grammar_in}
use Rattle.matcher_compiler.specs.Names.{number_in}
use Rattle.matcher_engine.specs.declared.attempts.Attempts.{Attempts}
use Rattle.matcher_engine.specs.FailureAttempts.{AreAttempts, AreToldAt, attempt_place}
use Rattle.matcher_engine.specs.FailurePaths.{Answers}
use Rattle.matcher_engine.specs.Reasons.{HasReason}
use Rattle.matcher_engine.proofs.AttemptPlaces.{asked_there, asked_thrice, furthest_from}

module _ (p : Program) (n : Text) (s : State) (steps : ℕ) where
  -- a stop is passed on
  pub err_answer : {A : Type 0} (Has : A → Type 0) (r : Result A Stop) (was : Stop) → IsErrAnd r (λ why. why ≡ was)
      → IsStoppedFrom (grammar_in p) p.properties.items n s steps was × HasReason (grammar_in p) p.properties.items n s steps was → Answers p n s steps Has r
  err_answer Has (Ok v) was i h = absurd i
  err_answer Has (Err why) was i h = subst (λ w. Answers p n s steps Has (Err w)) (sym i) h

  -- an answer with one property has another
  pub other_answer : {A : Type 0} (Has Other : A → Type 0) (r : Result A Stop) → ((it : A) → Has it → Other it) → Answers p n s steps Has r → Answers p n s steps Other r
  other_answer Has Other (Ok it) f h = f it h
  other_answer Has Other (Err why) f h = h

module _ (g : Grammar) (n : Text) (s : State) (classes : Classes) where
  same_place : (x y : Answer g classes (Run NonAtomicMode (Ident n)) s) → attempt_place x.1 ≡ attempt_place y.1
  same_place x y = ap (λ r. attempt_place r.1) (one_answer g classes x y)

  pub at_place : (asked : ℕ) (it : Attempts) → AreToldAt g n s classes asked it → it.place ≡ asked → AreAttempts g n s classes it
  at_place asked it y h = record {
    outcome = y.outcome;
    found = y.found;
    place = asked_there asked (attempt_place y.found) it.place (y.place ∙ furthest_from asked false y.found) h;
    positives = y.positives ∙ ap (λ k. map (number_in g) (attempts_at false k y.found).positives) (sym h);
    negatives = y.negatives ∙ ap (λ k. map (number_in g) (attempts_at false k y.found).negatives) (sym h);
  }

  pub at_last : (asked : ℕ) (a b c : Attempts) → AreToldAt g n s classes asked a → AreToldAt g n s classes a.place b → AreToldAt g n s classes b.place c → AreAttempts g n s classes c
  at_last asked a b c x y z =
      let f = attempt_place z.found in
      let d : a.place ≡ place_from asked f = x.place ∙ (furthest_from asked false x.found ∙ ap (place_from asked) (same_place (x.outcome, x.found) (z.outcome, z.found))) in
      let e : b.place ≡ place_from a.place f = y.place ∙ (furthest_from a.place false y.found ∙ ap (place_from a.place) (same_place (y.outcome, y.found) (z.outcome, z.found))) in
      let t = asked_thrice asked f a.place b.place c.place d e (z.place ∙ furthest_from b.place false z.found) in
      record {
        outcome = z.outcome;
        found = z.found;
        place = t.0;
        positives = z.positives ∙ ap (λ k. map (number_in g) (attempts_at false k z.found).positives) (sym t.1);
        negatives = z.negatives ∙ ap (λ k. map (number_in g) (attempts_at false k z.found).negatives) (sym t.1);
      }
