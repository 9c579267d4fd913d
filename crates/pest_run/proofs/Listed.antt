-- How a list of names ends.
use Rattle.std.proofs.Common.{◌≡◌, ◌≢◌, ◌∙◌, sym, subst, ℕ, List, Option, Result, arith}
use Rattle.std.specs.Prelude.{option_map, string_bytes}
use Rattle.std.specs.declared.alloc.Global.{Global}
use Rattle.std.specs.declared.string.String.{String}
use Rattle.std.specs.Io.KnownBytes.{Appends}
use Rattle.base_language.specs.Language.Expression.{Grammar}
use Rattle.pest_meta.specs.Written.{SpellsAccepted}
use Rattle.pest_run.specs.Ends.{EndsAs}
use Rattle.pest_run.specs.Listing.{IsListOutcome, ListsRules}
use Rattle.pest_run.specs.Written.{WritesNote}
use Rattle.pest_run.specs.declared.outcomes.Outcome.{Outcome}
use Rattle.pest_run.specs.declared.outcomes.Outcome.TheVariants as is
use Rattle.pest_run.proofs.Ended.{apart, neither}

module _ {X E : Type 0} (grammar : List ℕ) (rules : Grammar) (told : Result X E) (same : Type 0) (status : ℕ) (old_out new_out old new : Option (List ℕ)) where
  -- if the status is 0, the names were printed
  pub lists : (o : Outcome) → SpellsAccepted grammar rules → IsListOutcome rules o → EndsAs o same status told old_out new_out old new → status ≡ 0 → ListsRules grammar old_out new_out
  lists (is.Shown lines _) a i e zero =
      let P : List ℕ → Type 0 = λ t. Appends old_out new_out t in
      record { rules = rules; spelled = a; gained = subst P i.0 (e.1 zero) }
  lists (is.Failed report) a i e zero = absurd i
  lists (is.Unnamed report) a i e zero = absurd i
  lists (is.NoRule message) a i e zero = absurd i
  lists (is.OutOfSteps said) a i e zero = absurd i
  lists is.EmptyStack a i e zero = absurd i
  lists is.LongText a i e zero = absurd i
  lists is.UnknownName a i e zero = absurd i
  lists is.Bound a i e zero = absurd i
  lists is.Memory a i e zero = absurd (apart status 0 2 zero e (omega arith))

  -- and nothing else was told
  pub silent : (o : Outcome) → IsListOutcome rules o → EndsAs o same status told old_out new_out old new → status ≡ 0 → same
  silent (is.Shown lines _) i e zero =
      let P : Option (String Global) → Type 0 = λ n. WritesNote (option_map string_bytes n) same told old new in
      subst P i.1 (e.2 zero)
  silent (is.Failed report) i e zero = absurd i
  silent (is.Unnamed report) i e zero = absurd i
  silent (is.NoRule message) i e zero = absurd i
  silent (is.OutOfSteps said) i e zero = absurd i
  silent is.EmptyStack i e zero = absurd i
  silent is.LongText i e zero = absurd i
  silent is.UnknownName i e zero = absurd i
  silent is.Bound i e zero = absurd i
  silent is.Memory i e zero = absurd (apart status 0 2 zero e (omega arith))

  -- no other status than 0, 2 and 4
  pub only : (o : Outcome) (k : ℕ) → IsListOutcome rules o → EndsAs o same status told old_out new_out old new → status ≡ k → k ≢ 0 → k ≢ 2 → k ≢ 4 → ⊥
  only (is.Shown lines _) k i e one z t f = neither status k e.0 one z f
  only (is.Failed report) k i e one z t f = absurd i
  only (is.Unnamed report) k i e one z t f = absurd i
  only (is.NoRule message) k i e one z t f = absurd i
  only (is.OutOfSteps said) k i e one z t f = absurd i
  only is.EmptyStack k i e one z t f = absurd i
  only is.LongText k i e one z t f = absurd i
  only is.UnknownName k i e one z t f = absurd i
  only is.Bound k i e one z t f = absurd i
  only is.Memory k i e one z t f = t (sym one ∙ e)
