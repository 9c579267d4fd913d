-- Runs of compiled grammars by the names of their rules.
use Rattle.std.proofs.Common.{ℕ, List, Ok, Err, Result, chars}
use Rattle.std.specs.Prelude.{IfErr}
use Rattle.base_language.specs.Language.Expression.{Grammar}
use Rattle.matcher_engine.specs.BlockRuns.{IsOutcome, IsRefusal}
use Rattle.matcher_engine.specs.declared.block.runs.BlockStop.{BlockStop}
use Rattle.matcher_engine.specs.declared.block.runs.BlockStop.TheVariants as stop
use Rattle.matcher_engine.specs.declared.matcher.ParseTree.{ParseTree}
use Rattle.matcher_program.specs.Answers.{start_of}
use Rattle.matcher_support.specs.Compiled.{IsRefusedBy, IsUnanswered}
use Rattle.matcher_support.specs.Sets.{is_in_property}

module _ (g : Grammar) (rule text : List ℕ) (steps : ℕ) where
  pub unanswered_refused : (why : BlockStop) → IsUnanswered g rule text steps why → IsRefusedBy g rule text steps why
  unanswered_refused (stop.NoMatch place) h = absurd h
  unanswered_refused (stop.Stopped why) h = h
  unanswered_refused stop.NoRule h = h
  unanswered_refused (stop.Flaw flaw) h = h

  pub refusal_unanswered : (why : BlockStop) → IsRefusal g (chars rule) (start_of text) is_in_property steps why → IsUnanswered g rule text steps why
  refusal_unanswered (stop.NoMatch place) h = absurd h
  refusal_unanswered (stop.Stopped why) h = h
  refusal_unanswered stop.NoRule h = absurd h
  refusal_unanswered (stop.Flaw flaw) h = absurd h

  pub outcome_refused : (r : Result ParseTree BlockStop) → IsOutcome g (chars rule) (start_of text) is_in_property steps r → IfErr r (IsRefusedBy g rule text steps)
  outcome_refused (Ok it) h = tt
  outcome_refused (Err (stop.NoMatch place)) h = h
  outcome_refused (Err (stop.Stopped why)) h = h
  outcome_refused (Err stop.NoRule) h = absurd h
  outcome_refused (Err (stop.Flaw flaw)) h = absurd h
