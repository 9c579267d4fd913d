-- What a run of compiled rules says of a rule on a text.
use Rattle.std.proofs.Common.{◌≡◌, refl, sym, ◌∙◌, ap, subst, ℕ, ◌+◌, ◌-◌, ◌*◌, ◌<◌, ◌≤◌, List, [], None, Option, Some, chars, drop, length, inl, inr, arith, Bool, map}
use Rattle.std.specs.Prelude.{IsUtf8, max}
use Rattle.std.specs.Str.{IsCharBoundary}
use Rattle.std.proofs.lemmas.Bool.{cases_lt}
use Rattle.std.proofs.lemmas.List.{length-drop, length-map}
use Rattle.std.proofs.lemmas.List.Elements.{All-nil}
use Rattle.std.proofs.lemmas.Str.{IsUtf8-drop, encodes-chars}
use Rattle.base_language.specs.Language.Expression.{Ident, last_place}
use Rattle.base_language.specs.Language.FurthestFailure.{furthest}
use Rattle.base_language.specs.Language.Meaning.{Does, Run, Task}
use Rattle.base_language.specs.Language.State.{Classes, Failure, NonAtomicMode, Outcome, State, Success, Trees}
use Rattle.base_language.specs.Language.Text.{Text}
use Rattle.base_language.specs.Pieces.Span.{position_offset, position_text}
use Rattle.base_language.specs.declared.runtime.places.Position.{Position}
use Rattle.matcher_code.specs.Lists.{CodeLists}
use Rattle.matcher_code.specs.declared.code.Op.TheVariants as op
use Rattle.matcher_code.specs.Steps.{Config, LacksText, StopsAt, Trace, jump, op_at, steps, insert_rules, one_place}
use Rattle.matcher_code.specs.declared.state.Places.{Places}
use Rattle.matcher_code.specs.Endings.{IsFound}
use Rattle.matcher_code.specs.Laid.{IsEnd, IsPoint}
use Rattle.matcher_code.specs.Reached.{IsAt, Reaches, with_failure, with_success, with_trace, MayAsk}
use Rattle.matcher_code.specs.Sizes.{size}
use Rattle.matcher_code.proofs.Existence.{Goes, begun, end_stops, finds, found, goes, lacks, stays_ended}
use Rattle.matcher_code.proofs.Forward.{comes, fail_forward, guard_forward}
use Rattle.matcher_code.proofs.Reaching.{lacks_stops, reaching, stays_stopped, steps_add, within}
use Rattle.matcher_machine.specs.declared.machine.Machine.{Machine}
use Rattle.matcher_machine.specs.declared.machine.RunEnd.TheVariants as ended
use Rattle.matcher_machine.specs.Machines.{EndsAtLast, EndsIn, config}
use Rattle.matcher_program.specs.declared.form.Program.{Program}
use Rattle.matcher_program.specs.Programs.{Fits, name_at, names_of, grammar_rule}
use Rattle.matcher_program.specs.declared.answers.Stop.TheVariants as stop
use Rattle.matcher_program.specs.Answers.{IsStoppedFrom, start_of, state_at, text_size}
use Rattle.matcher_compiler.specs.Compiled.{IsCodeOf}
use Rattle.matcher_compiler.specs.Names.{number_in}
use Rattle.matcher_sets.specs.Forms.{grammar_in}
use Rattle.matcher_engine.proofs.Bytes.{bytes_of_text}
use Rattle.matcher_engine.proofs.Known.{named_map, no_rule, placed}
use Rattle.matcher_engine.proofs.Totals.{same_size}
use Rattle.base_language.specs.Language.Expected.{expected_at}
use Rattle.matcher_code.specs.Failures.{failures_at}
use Rattle.matcher_engine.specs.Reasons as longer
use Rattle.matcher_engine.specs.Reasons.{HasReason, IsLonger, ReadsEmptyStack}
use Rattle.matcher_engine.specs.Runs.{HasFailed, HasFound, IsFresh}
use Rattle.matcher_machine.specs.declared.machine.RunEnd.{RunEnd}

-- the configuration of a run from a position, if others are asked for, with a trace or none
abbrev pub start_at : ℕ → Places → Option Trace → ℕ → Config
start_at from asked trace l = record { pc = l; at = from; frames = []; trees = []; stack = []; furthest = 0; asked = asked; names = []; trace = trace }

-- a machine before its first step
pub fresh : (code : CodeLists) (text : List ℕ) (m : Machine) (l from : ℕ) → IsFresh m → config code text m l from ≡ start_at from (one_place m.asked) None l
fresh code text m l from f =
    let a = f.frames in
    let b = f.trees in
    let d = f.pushed in
    let c = f.furthest in
    let e = f.names in
    rw (a, b, d, c, e) refl

-- a position, as the machine has it
pub stands_at : (p : Position) (text : List ℕ) (from : ℕ) → text ≡ position_text p → from ≡ position_offset p → IsUtf8 text → IsCharBoundary (position_text p) (position_offset p)
    → IsAt text (state_at p) from []
stands_at p text from e h u b =
    let v : IsUtf8 (position_text p) = rw e at u in
    rw (e, h) (record { position = refl; rest = refl; within = b.0; valid = IsUtf8-drop (position_text p) (position_offset p) v b; bytes = bytes_of_text (position_text p) v; texts = refl; valid_texts = All-nil IsUtf8 })

-- the bytes up to a position, and those behind it
pub whole_size : (p : Position) → IsUtf8 (position_text p) → IsCharBoundary (position_text p) (position_offset p) → text_size (state_at p) ≡ length (position_text p)
whole_size p u b =
    let text = position_text p in
    let from = position_offset p in
    omega (arith, ap length (encodes-chars (drop from text) (IsUtf8-drop text from u b)), length-drop from text, b.0)

-- the start of a text is a position of it
abbrev state_behind : List ℕ → ℕ → State
state_behind text i = record { position = i; rest = chars (drop i text); stack = [] }

pub first_state : (p : Position) (text : List ℕ) → position_text p ≡ text → position_offset p ≡ 0 → state_at p ≡ start_of text
first_state p text e h = ap (λ t. state_behind t (position_offset p)) e ∙ ap (λ i. state_behind text i) h

-- a run that has ended stands where it comes to
pub same_end : (code : CodeLists) (text : List ℕ) (m : ℕ) {i j : ℕ} {c d : Config} (x : Reaches code text i j c d) → IsEnd code d.pc → IsEnd code (steps code text m c).pc
    → steps code text m c ≡ d
same_end code text m {c = c} {d = d} x e h =
    let z : m + x.taken ≡ x.taken + m = omega arith in
    sym (steps_add code text m x.taken c ∙ stays_ended code text (steps code text m c) h x.taken)
    ∙ (ap (λ k. steps code text k c) z ∙ (steps_add code text x.taken m c ∙ (ap (steps code text m) x.same ∙ stays_ended code text d e m)))

-- a run has ended after the steps that it takes to come to an end
ends_by : (code : CodeLists) (text : List ℕ) (m : ℕ) {i j : ℕ} {c d : Config} (x : Reaches code text i j c d) → x.taken ≤ m → IsEnd code d.pc → IsEnd code (steps code text m c).pc
ends_by code text m {c = c} {d = d} x l e =
    let z : x.taken + (m - x.taken) ≡ m = omega (arith, l) in
    let q : steps code text m c ≡ d =
    ap (λ k. steps code text k c) (sym z) ∙ (steps_add code text x.taken (m - x.taken) c ∙ (ap (steps code text (m - x.taken)) x.same ∙ stays_ended code text d e (m - x.taken))) in
    subst (λ y. IsEnd code y.pc) (sym q) e

module _ (p : Program) (exact : Bool) (code : CodeLists) (is : IsCodeOf exact p code) (n : Text) (i : ℕ) (meant : last_place (grammar_in p) n ≡ Some i)
    (text : List ℕ) (s : State) (from : ℕ) (asked : Places) (trace : Option Trace) (stands : IsAt text s from []) (asks : MayAsk exact text asked) where
  abbrev task : Task
  task = Run NonAtomicMode (Ident n)

  abbrev start : Config
  start = start_at from asked trace (i + 3)

  abbrev after : ℕ → Config
  after m = steps code text m start

  abbrev HasStopped : Config → Type 0
  HasStopped c = StopsAt (op_at code text c.pc) c

  abbrev rules_at : {classes : Classes} {o : Outcome} → Does (grammar_in p) classes task s o → List ℕ
  rules_at d = insert_rules [] (map (number_in (grammar_in p)) (expected_at asked.names d))

  entry : IsPoint is.points task (i + 3) 1 2
  entry =
      let x = placed (grammar_in p) n i meant in
      let l : i < length p.rules.items = omega (arith, x.0, length-map p.rules.items (grammar_rule (names_of p.rules.items))) in
      let e : name_at (names_of p.rules.items) i ≡ n = named_map (grammar_rule (names_of p.rules.items)) (λ w. (grammar_rule (names_of p.rules.items) w).name) (λ w. refl) p.rules.items i no_rule [] l ∙ x.1 no_rule in
      subst (λ t. IsPoint is.points (Run NonAtomicMode (Ident t)) (i + 3) 1 2) e (is.entries i l)

  up : 0 < 2
  up = omega arith

  module _ (classes : Classes) (fits : Fits p.properties.items classes) where
    -- what a run comes to
    pub succeeding : {t : State} {us : Trees} (d : Does (grammar_in p) classes task s (Success t us))
        → Reaches code text 0 (8 * size d) start (jump 1 (with_success (number_in (grammar_in p)) t us (failures_at asked d) start))
    succeeding d =
        let laid = is.laid classes fits in
        let x = comes code text (number_in (grammar_in p)) is.ends.fail exact (grammar_in p) classes is.points laid d (laid task (i + 3) 1 2 entry) start stands asks (guard_forward 2 0 start up) in
        within code text 0 (8 * size d) x.reaches (omega arith) (omega arith)

    pub failing : (d : Does (grammar_in p) classes task s Failure) → Reaches code text 0 (8 * size d) start (jump 2 (with_failure (number_in (grammar_in p)) (failures_at asked d) start))
    failing d =
        let laid = is.laid classes fits in
        let x = comes code text (number_in (grammar_in p)) is.ends.fail exact (grammar_in p) classes is.points laid d (laid task (i + 3) 1 2 entry) start stands asks (guard_forward 2 0 start up) in
        within code text 0 (8 * size d) (reaching code text x.reaches (fail_forward 2 (with_failure (number_in (grammar_in p)) (failures_at asked d) start) up)) (omega arith) (omega arith)

    goes_here : (m : ℕ) → Goes code text (grammar_in p) classes 0 m task s start
    goes_here m = goes code text (number_in (grammar_in p)) is.ends.fail exact (grammar_in p) classes is.points (is.laid classes fits) entry s start stands asks (guard_forward 2 0 start up) m

    pub outcome_of : (m : ℕ) → IsEnd code (after m).pc → IsFound (grammar_in p) classes task s
    outcome_of m h = finds code text (number_in (grammar_in p)) is.ends.fail exact (grammar_in p) classes is.points (is.laid classes fits) entry s start stands asks (guard_forward 2 0 start up) m (record { ended = h })

    unfinished : (m : ℕ) → (IsEnd code (after m).pc → ⊥) → (o : Outcome) (d : Does (grammar_in p) classes task s o) → m < 8 * size d
    unfinished m h (Success t us) d =
        let x = succeeding d in
        elim (cases_lt m (8 * size d)) [ inl a ↦ a | inr a ↦ absurd (h (ends_by code text m x (omega (arith, x.below, a)) (inl is.ends.halt))) ]
    unfinished m h Failure d =
        let x = failing d in
        elim (cases_lt m (8 * size d)) [ inl a ↦ a | inr a ↦ absurd (h (ends_by code text m x (omega (arith, x.below, a)) (inr is.ends.lose))) ]

    -- a run that stays at an operation that is no end has no outcome to come to
    never : (m : ℕ) → HasStopped (after m) → (IsEnd code (after m).pc → ⊥) → (o : Outcome) → Does (grammar_in p) classes task s o → ⊥
    never m fixed live o d =
        let e : after (m + 8 * size d) ≡ after m = steps_add code text m (8 * size d) start ∙ stays_stopped code text (8 * size d) (after m) fixed in
        let l = unfinished (m + 8 * size d) (λ z. live (subst (λ c. IsEnd code c.pc) e z)) o d in
        absurd (omega (arith, l))

  module _ (m : ℕ) (it : Machine) (end : ℕ) where
    -- a success, and what a run that comes to the halt has of it
    succeeded : (classes : Classes) → Fits p.properties.items classes → op_at code [] (after m).pc ≡ op.Halt
        → (after m).at ≡ end → (after m).trees ≡ it.trees.items → (after m).furthest ≡ it.furthest → (after m).names ≡ it.names.items
        → (o : Outcome) → Does (grammar_in p) classes task s o → HasFound (grammar_in p) n s classes asked.names it end
    succeeded classes fits h e w f ns (Success t us) d =
        let q = same_end code text m (succeeding classes fits d) (inl is.ends.halt) (inl h) in
        let z : max 0 (furthest d) ≡ furthest d = omega arith in
        record {
          state = t;
          trees = us;
          found = d;
          ends = sym e ∙ ap (λ y. y.at) q;
          nodes = sym w ∙ ap (λ y. y.trees) q;
          furthest = sym f ∙ (ap (λ y. y.furthest) q ∙ z);
          names = sym ns ∙ ap (λ y. y.names) q;
        }
    succeeded classes fits h e w f ns Failure d =
        let q = same_end code text m (failing classes fits d) (inr is.ends.lose) (inl h) in
        let e : op_at code [] (after m).pc ≡ op_at code [] 2 = ap (λ y. op_at code [] y.pc) q in
        let z : op.Lose ≡ op.Halt = sym is.ends.lose ∙ (sym e ∙ h) in cc

    lost : (classes : Classes) → Fits p.properties.items classes → op_at code [] (after m).pc ≡ op.Lose
        → (after m).furthest ≡ it.furthest → (after m).names ≡ it.names.items
        → (o : Outcome) → Does (grammar_in p) classes task s o → HasFailed (grammar_in p) n s classes asked.names it
    lost classes fits h f ns Failure d =
        let q = same_end code text m (failing classes fits d) (inr is.ends.lose) (inr h) in
        let z : max 0 (furthest d) ≡ furthest d = omega arith in
        record { found = d; furthest = sym f ∙ (ap (λ y. y.furthest) q ∙ z); names = sym ns ∙ ap (λ y. y.names) q }
    lost classes fits h f ns (Success t us) d =
        let q = same_end code text m (succeeding classes fits d) (inl is.ends.halt) (inr h) in
        let e : op_at code [] (after m).pc ≡ op_at code [] 1 = ap (λ y. op_at code [] y.pc) q in
        let z : op.Halt ≡ op.Lose = sym is.ends.halt ∙ (sym e ∙ h) in cc

  -- the trace of a run that has ended
  pub traced_as : (m : ℕ) → IsEnd code (after m).pc → (classes : Classes) → Fits p.properties.items classes
      → (o : Outcome) × (d : Does (grammar_in p) classes task s o) × ((after m).trace ≡ with_trace (number_in (grammar_in p)) (failures_at asked d) trace)
  traced_as m h classes fits = let y = outcome_of classes fits m h in go y.outcome y.found
    where
      go : (o : Outcome) → Does (grammar_in p) classes task s o
          → (o : Outcome) × (d : Does (grammar_in p) classes task s o) × ((after m).trace ≡ with_trace (number_in (grammar_in p)) (failures_at asked d) trace)
      go (Success t us) d = (Success t us, d, ap (λ y. y.trace) (same_end code text m (succeeding classes fits d) (inl is.ends.halt) h))
      go Failure d = (Failure, d, ap (λ y. y.trace) (same_end code text m (failing classes fits d) (inr is.ends.lose) h))

  module _ (old new : Machine) (most : ℕ) (same : config code text old (i + 3) from ≡ start) where
    -- the result of a run that found the end of a match
    pub found_as : (end : ℕ) → EndsAtLast code text most (config code text old (i + 3) from) new (ended.Found end)
        → (classes : Classes) → Fits p.properties.items classes → HasFound (grammar_in p) n s classes asked.names new end
    found_as end x classes fits =
        let q : after x.taken ≡ config code text new x.ends.0 end = ap (λ c. steps code text x.taken c) (sym same) ∙ x.ends.1 in
        let h : op_at code [] (after x.taken).pc ≡ op.Halt = subst (λ c. op_at code [] c.pc ≡ op.Halt) (sym q) x.ends.2 in
        let y = outcome_of classes fits x.taken (inl h) in
        succeeded x.taken new end classes fits h (ap (λ c. c.at) q) (ap (λ c. c.trees) q) (ap (λ c. c.furthest) q) (ap (λ c. c.names) q) y.outcome y.found

    -- of a run that failed
    pub failed_as : EndsAtLast code text most (config code text old (i + 3) from) new ended.Failed
        → (classes : Classes) → Fits p.properties.items classes → HasFailed (grammar_in p) n s classes asked.names new
    failed_as x classes fits =
        let q : after x.taken ≡ config code text new x.ends.0 x.ends.1 = ap (λ c. steps code text x.taken c) (sym same) ∙ x.ends.2 in
        let h : op_at code [] (after x.taken).pc ≡ op.Lose = subst (λ c. op_at code [] c.pc ≡ op.Lose) (sym q) x.ends.3 in
        let y = outcome_of classes fits x.taken (inr h) in
        lost x.taken new 0 classes fits h (ap (λ c. c.furthest) q) (ap (λ c. c.names) q) y.outcome y.found

  module _ (first : Config) (d : ℕ → ℕ → Config) (stood : (pc at : ℕ) → (d pc at).pc ≡ pc) (most : ℕ) (same : first ≡ start) where
    -- where a run stands
    at_pc : (m pc at : ℕ) → steps code text m first ≡ d pc at → (after m).pc ≡ pc
    at_pc m pc at q = ap (λ c. (steps code text m c).pc) (sym same) ∙ (ap (λ c. c.pc) q ∙ stood pc at)

    -- it stops there, or goes on
    stops_here : (m pc at : ℕ) → steps code text m first ≡ d pc at → StopsAt (op_at code text pc) (d pc at) → HasStopped (after m)
    stops_here m pc at q h =
        let e : after m ≡ d pc at = ap (λ c. steps code text m c) (sym same) ∙ q in
        subst HasStopped (sym e) (subst (λ l. StopsAt (op_at code text l) (d pc at)) (sym (stood pc at)) h)

    has_stopped : (m pc at : ℕ) → steps code text m first ≡ d pc at → HasStopped (after m) → StopsAt (op_at code text pc) (d pc at)
    has_stopped m pc at q h =
        let e : after m ≡ d pc at = ap (λ c. steps code text m c) (sym same) ∙ q in
        subst (λ l. StopsAt (op_at code text l) (d pc at)) (stood pc at) (subst HasStopped e h)

    -- the end of a run that found a match or failed
    pub found_end : (end : ℕ) → (x : EndsIn code text most first d (ended.Found end)) → IsEnd code (after x.taken).pc
    found_end end x = inl (subst (λ l. op_at code [] l ≡ op.Halt) (sym (at_pc x.taken x.ends.0 end x.ends.1)) x.ends.2)

    pub failed_end : (x : EndsIn code text most first d ended.Failed) → IsEnd code (after x.taken).pc
    failed_end x = inr (subst (λ l. op_at code [] l ≡ op.Lose) (sym (at_pc x.taken x.ends.0 x.ends.1 x.ends.2)) x.ends.3)

    -- where a run stands that has not ended
    no_end : (m pc at : ℕ) → steps code text m first ≡ d pc at → (op_at code text pc ≡ op.Halt → ⊥) → (op_at code text pc ≡ op.Lose → ⊥) → IsEnd code (after m).pc → ⊥
    no_end m pc at q h k e = elim e [
      | inl a ↦ h (subst (λ l. op_at code [] l ≡ op.Halt) (at_pc m pc at q) a)
      | inr a ↦ k (subst (λ l. op_at code [] l ≡ op.Lose) (at_pc m pc at q) a)
    ]

    -- of a run that was stopped
    stopped_as : (limit : ℕ) → 4 * limit ≤ most → EndsIn code text most first d ended.OutOfSteps
        → IsStoppedFrom (grammar_in p) p.properties.items n s limit stop.OutOfSteps
    stopped_as limit l x classes fits o does =
        let less = unfinished classes fits x.taken (λ z. x.ends.4 (has_stopped x.taken x.ends.0 x.ends.1 x.ends.2 (end_stops code text (after x.taken) z))) o does in
        omega (arith, less, x.ends.3, l, same_size does)

    longer_as : (limit : ℕ) → 4 * limit ≤ most → EndsIn code text most first d ended.OutOfSteps
        → (classes : Classes) → Fits p.properties.items classes → IsLonger (grammar_in p) classes n s limit
    longer_as limit l x classes fits = go (goes_here classes fits x.taken)
      where
        stopped : (j : ℕ) → j ≤ x.taken → LacksText (op_at code text (after j).pc) (after j) → ⊥
        stopped j h z =
            let e : j + (x.taken - j) ≡ x.taken = omega (arith, h) in
            let w = lacks_stops code text (op_at code text (after j).pc) (after j) z in
            let f : after x.taken ≡ after j =
            ap (λ k. steps code text k start) (sym e) ∙ (steps_add code text j (x.taken - j) start ∙ stays_stopped code text (x.taken - j) (after j) w) in
            x.ends.4 (has_stopped x.taken x.ends.0 x.ends.1 x.ends.2 (subst HasStopped (sym f) w))

        go : Goes code text (grammar_in p) classes 0 x.taken task s start → IsLonger (grammar_in p) classes n s limit
        go (found y) = longer.ends y.found (stopped_as limit l x classes fits y.outcome y.found)
        go (begun w less live) = longer.comes w (omega (arith, less, x.ends.3, l))
        go (lacks w r j less z) =
            elim (cases_lt x.taken j) [ inl a ↦ longer.comes w (omega (arith, less, a, x.ends.3, l)) | inr a ↦ absurd (stopped j a z) ]

    pub run_limited : (limit : ℕ) → 4 * limit ≤ most → EndsIn code text most first d ended.OutOfSteps
        → IsStoppedFrom (grammar_in p) p.properties.items n s limit stop.OutOfSteps × HasReason (grammar_in p) p.properties.items n s limit stop.OutOfSteps
    run_limited limit l x = (stopped_as limit l x, λ classes fits. ∣ longer_as limit l x classes fits ∣₁)

    -- of a run that takes a text from the empty stack
    stuck_as : (limit : ℕ) → EndsIn code text most first d ended.Stuck
        → IsStoppedFrom (grammar_in p) p.properties.items n s limit stop.EmptyStack
    stuck_as limit x classes fits o does =
        never classes fits x.taken (stops_here x.taken x.ends.0 x.ends.1 x.ends.2 x.ends.3) (no_end x.taken x.ends.0 x.ends.1 x.ends.2 x.ends.4 x.ends.5) o does

    empty_as : EndsIn code text most first d ended.Stuck
        → (classes : Classes) → Fits p.properties.items classes → ReadsEmptyStack (grammar_in p) classes n s
    empty_as x classes fits = go (goes_here classes fits x.taken)
      where
        go : Goes code text (grammar_in p) classes 0 x.taken task s start → ReadsEmptyStack (grammar_in p) classes n s
        go (found y) = absurd (stuck_as 0 x classes fits y.outcome y.found)
        go (begun w less live) = absurd (live (stops_here x.taken x.ends.0 x.ends.1 x.ends.2 x.ends.3))
        go (lacks w r j less z) = record { applied = _; mode = _; name = _; state = _; comes = w; read = r }

    pub run_emptied : (limit : ℕ) → EndsIn code text most first d ended.Stuck
        → IsStoppedFrom (grammar_in p) p.properties.items n s limit stop.EmptyStack × HasReason (grammar_in p) p.properties.items n s limit stop.EmptyStack
    run_emptied limit x = (stuck_as limit x, λ classes fits. ∣ empty_as x classes fits ∣₁)

-- the results of a run from a position of a text
module _ (p : Program) (exact : Bool) (code : CodeLists) (is : IsCodeOf exact p code) (n : Text) (i : ℕ) (meant : last_place (grammar_in p) n ≡ Some i)
    (start : Position) (text : List ℕ) (from : ℕ) (e : text ≡ position_text start) (h : from ≡ position_offset start) (u : IsUtf8 text)
    (b : IsCharBoundary (position_text start) (position_offset start)) (old new : Machine) (f : IsFresh old) (asks : MayAsk exact (position_text start) (one_place old.asked))
    (entry most : ℕ) (k : entry ≡ i + 3) where
  asks_here : MayAsk exact text (one_place old.asked)
  asks_here = subst (λ t. MayAsk exact t (one_place old.asked)) (sym e) asks

  entered : (r : RunEnd) → EndsAtLast code text most (config code text old entry from) new r → EndsAtLast code text most (config code text old (i + 3) from) new r
  entered r x = subst (λ l. EndsAtLast code text most (config code text old l from) new r) k x

  started : config code text old (i + 3) from ≡ start_at from (one_place old.asked) None (i + 3)
  started = fresh code text old (i + 3) from f

  pub run_found : (end : ℕ) → EndsAtLast code text most (config code text old entry from) new (ended.Found end)
      → (classes : Classes) → Fits p.properties.items classes → HasFound (grammar_in p) n (state_at start) classes old.asked new end
  run_found end x = found_as p exact code is n i meant text (state_at start) from (one_place old.asked) None (stands_at start text from e h u b) asks_here old new most started end (entered _ x)

  pub run_failed : EndsAtLast code text most (config code text old entry from) new ended.Failed
      → (classes : Classes) → Fits p.properties.items classes → HasFailed (grammar_in p) n (state_at start) classes old.asked new
  run_failed x = failed_as p exact code is n i meant text (state_at start) from (one_place old.asked) None (stands_at start text from e h u b) asks_here old new most started (entered _ x)

  pub run_stopped : (limit : ℕ) → 4 * limit ≤ most → EndsAtLast code text most (config code text old entry from) new ended.OutOfSteps
      → IsStoppedFrom (grammar_in p) p.properties.items n (state_at start) limit stop.OutOfSteps × HasReason (grammar_in p) p.properties.items n (state_at start) limit stop.OutOfSteps
  run_stopped limit l x = run_limited p exact code is n i meant text (state_at start) from (one_place old.asked) None (stands_at start text from e h u b) asks_here (config code text old (i + 3) from) (config code text new) (λ pc at. refl) most started limit l (entered _ x)

  pub run_stuck : (limit : ℕ) → EndsAtLast code text most (config code text old entry from) new ended.Stuck
      → IsStoppedFrom (grammar_in p) p.properties.items n (state_at start) limit stop.EmptyStack × HasReason (grammar_in p) p.properties.items n (state_at start) limit stop.EmptyStack
  run_stuck limit x = run_emptied p exact code is n i meant text (state_at start) from (one_place old.asked) None (stands_at start text from e h u b) asks_here (config code text old (i + 3) from) (config code text new) (λ pc at. refl) most started limit (entered _ x)
