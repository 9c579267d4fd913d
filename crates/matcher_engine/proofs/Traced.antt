-- What a run that records calls says of where a text failed.
use Rattle.std.proofs.Common.{◌≡◌, refl, sym, ◌∙◌, ap, ℕ, ◌+◌, ◌*◌, ◌≤◌, List, [], ◌∷◌, None, Option, Some, true, max, arith}
use Rattle.std.specs.Prelude.{IsUtf8}
use Rattle.std.specs.Str.{IsCharBoundary}
use Rattle.base_language.specs.Language.Expression.{last_place}
use Rattle.base_language.specs.Language.Text.{Text}
use Rattle.base_language.specs.Pieces.Span.{position_offset, position_text}
use Rattle.base_language.specs.declared.runtime.places.Position.{Position}
use Rattle.matcher_code.specs.Lists.{CodeLists}
use Rattle.matcher_code.specs.declared.state.OpenCall.{OpenCall}
use Rattle.matcher_code.specs.declared.state.Places.{Places}
use Rattle.matcher_code.specs.Paths.{Path}
use Rattle.matcher_code.specs.Failures.{Failures, failures_at}
use Rattle.matcher_code.specs.Reached.{calls_of, attempts_by_number, with_attempts, with_paths, with_trace}
use Rattle.matcher_code.specs.Steps.{Config, Trace, no_trace, steps, with_path}
use Rattle.matcher_machine.specs.declared.machine.RunEnd.TheVariants as ended
use Rattle.matcher_machine.specs.Machines.{EndsIn}
use Rattle.matcher_program.specs.declared.form.Program.{Program}
use Rattle.matcher_program.specs.declared.answers.Stop.TheVariants as stop
use Rattle.matcher_program.specs.Answers.{IsStoppedFrom, state_at}
use Rattle.matcher_compiler.specs.Compiled.{IsCodeOf}
use Rattle.matcher_compiler.specs.Names.{number_in}
use Rattle.matcher_sets.specs.Forms.{grammar_in}
use Rattle.matcher_engine.specs.declared.tracer.Tracer.{Tracer}
use Rattle.matcher_engine.specs.Traces.{asked_of, own_trace, frame_traces, trace_of, traced, traced_config}
use Rattle.matcher_engine.specs.FailurePaths.{IsTracedFrom, with_each}
use Rattle.matcher_engine.specs.Reasons.{HasReason}
use Rattle.matcher_engine.specs.Runs.{IsFresh}
use Rattle.matcher_engine.proofs.Results.{failed_end, found_end, fresh, run_emptied, run_limited, stands_at, start_at, traced_as}

-- the trace before the first call, with these paths
abbrev with_lists : List (List OpenCall) → Trace
with_lists lists = record no_trace { paths = lists }

each_recorded : (number : Text → ℕ) (ps : List Path) (lists : List (List OpenCall)) → with_paths number ps (Some (with_lists lists)) ≡ Some (with_lists (with_each number lists ps))
each_recorded number [] lists = refl
each_recorded number (p ∷ ps) lists = each_recorded number ps (with_path lists (calls_of number p))

-- the trace of a run that has ended
recorded : (number : Text → ℕ) (f : Failures) → with_trace number f (Some no_trace) ≡ Some (record no_trace { paths = with_each number [] f.paths; attempts = attempts_by_number number f.attempts })
recorded number f =
    let e : max 0 f.attempts.furthest ≡ f.attempts.furthest = omega arith in
    ap (with_attempts number f) (each_recorded number f.paths [])
    ∙ ap (λ n. Some (record no_trace { paths = with_each number [] f.paths; attempts = record (attempts_by_number number f.attempts) { furthest = n } })) e

some_inside : {t u : Trace} → Some t ≡ Some u → t ≡ u
some_inside {t = t} {u = u} e = ap (λ x. go x) e
  where
    go : Option Trace → Trace
    go None = t
    go (Some x) = x

module _ (p : Program) (code : CodeLists) (is : IsCodeOf true p code) (n : Text) (i : ℕ) (meant : last_place (grammar_in p) n ≡ Some i)
    (start : Position) (text : List ℕ) (from : ℕ) (e : text ≡ position_text start) (h : from ≡ position_offset start) (u : IsUtf8 text)
    (b : IsCharBoundary (position_text start) (position_offset start)) (old new : Tracer) (asked : Places) (f : IsFresh old.machine) (places : asked_of old ≡ asked)
    (untold : trace_of old ≡ no_trace) (entry most : ℕ) (k : entry ≡ i + 3) where
  abbrev first : Config
  first = traced_config code text old entry from

  began : first ≡ start_at from asked (Some no_trace) (i + 3)
  began =
      ap (λ l. traced_config code text old l from) k
      ∙ (ap (traced (frame_traces old) (own_trace old) old.place) (fresh code text old.machine (i + 3) from f)
      ∙ (ap (λ x. start_at from (asked_of old) (Some x) (i + 3)) untold ∙ ap (λ a. start_at from a (Some no_trace) (i + 3)) places))

  -- what is recorded where a run has ended
  have : (m pc at : ℕ) → steps code text m first ≡ traced_config code text new pc at → (f : Failures)
      → (steps code text m (start_at from asked (Some no_trace) (i + 3))).trace ≡ with_trace (number_in (grammar_in p)) f (Some no_trace)
      → trace_of new ≡ record no_trace { paths = with_each (number_in (grammar_in p)) [] f.paths; attempts = attempts_by_number (number_in (grammar_in p)) f.attempts }
  have m pc at q f t =
      some_inside (ap (λ c. c.trace) (sym q ∙ ap (steps code text m) began) ∙ (t ∙ recorded (number_in (grammar_in p)) f))

  pub traced_found : (end : ℕ) → EndsIn code text most first (traced_config code text new) (ended.Found end)
      → IsTracedFrom (grammar_in p) p.properties.items n (state_at start) asked new
  traced_found end x classes fits =
      let over = found_end p true code is n i meant text (state_at start) from asked (Some no_trace) (stands_at start text from e h u b) tt first (traced_config code text new) (λ pc at. refl) most began end x in
      let y = traced_as p true code is n i meant text (state_at start) from asked (Some no_trace) (stands_at start text from e h u b) tt x.taken over classes fits in
      let z = have x.taken x.ends.0 end x.ends.1 (failures_at asked y.1) y.2 in
      record { outcome = y.0; found = y.1; paths = ap (λ t. t.paths) z; attempts = ap (λ t. t.attempts) z }

  pub traced_failed : EndsIn code text most first (traced_config code text new) ended.Failed
      → IsTracedFrom (grammar_in p) p.properties.items n (state_at start) asked new
  traced_failed x classes fits =
      let over = failed_end p true code is n i meant text (state_at start) from asked (Some no_trace) (stands_at start text from e h u b) tt first (traced_config code text new) (λ pc at. refl) most began x in
      let y = traced_as p true code is n i meant text (state_at start) from asked (Some no_trace) (stands_at start text from e h u b) tt x.taken over classes fits in
      let z = have x.taken x.ends.0 x.ends.1 x.ends.2 (failures_at asked y.1) y.2 in
      record { outcome = y.0; found = y.1; paths = ap (λ t. t.paths) z; attempts = ap (λ t. t.attempts) z }

  pub traced_stopped : (limit : ℕ) → 4 * limit ≤ most → EndsIn code text most first (traced_config code text new) ended.OutOfSteps
      → IsStoppedFrom (grammar_in p) p.properties.items n (state_at start) limit stop.OutOfSteps × HasReason (grammar_in p) p.properties.items n (state_at start) limit stop.OutOfSteps
  traced_stopped limit l x =
      run_limited p true code is n i meant text (state_at start) from asked (Some no_trace) (stands_at start text from e h u b) tt first (traced_config code text new) (λ pc at. refl) most began limit l x

  pub traced_stuck : (limit : ℕ) → EndsIn code text most first (traced_config code text new) ended.Stuck
      → IsStoppedFrom (grammar_in p) p.properties.items n (state_at start) limit stop.EmptyStack × HasReason (grammar_in p) p.properties.items n (state_at start) limit stop.EmptyStack
  traced_stuck limit x =
      run_emptied p true code is n i meant text (state_at start) from asked (Some no_trace) (stands_at start text from e h u b) tt first (traced_config code text new) (λ pc at. refl) most began limit x
