use Rattle.std.proofs.Common.{ℕ, List, Option, Result, Some, None}
use Rattle.std.specs.Str.Parse.{ExplainsUnsignedError, HasUnsignedDigitsIfOk, ParsesUnsigned}
use Rattle.clap.specs.Matches.{ReadsOne}
use Rattle.pest_run.specs.Steps.{CountsSteps}
use Rattle.pest_run.proofs.arguments.steps_of.Goals as goal

reads : {E : Type 0} (A B : List ℕ → Result ℕ E → Type 0) (t : List ℕ) (r : Option ℕ) → ReadsOne {T = ℕ} {E = E} (λ bs r. ParsesUnsigned 64 10 bs r × A bs r × B bs r) t r → CountsSteps t r
reads A B t (Some v) h = h.0
reads A B t None h = h.1.0

pub returns-clause-value : goal.returns-clause-value
returns-clause-value c = λ t e.
    reads (λ bs r. ExplainsUnsignedError 10 bs r) (λ bs r. HasUnsignedDigitsIfOk bs r) t c.get_one.result (c.get_one.ensures.value t e)
