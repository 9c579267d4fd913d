-- What a run of code of the meta-grammar comes to.
use Rattle.std.proofs.Common.{◌≡◌, refl, sym, ◌∙◌, ap, subst, ℕ, ◌+◌, ◌<◌, inl, inr, List, [], get_or, arith, Bool}
use Rattle.std.specs.Prelude.{IsUtf8, max}
use Rattle.std.proofs.lemmas.List.Elements.{All-nil}
use Rattle.base_language.specs.Language.Expression.{Ident}
use Rattle.base_language.specs.Language.FurthestFailure.{furthest}
use Rattle.base_language.specs.Language.Meaning.{Does, Run, Task}
use Rattle.base_language.specs.Language.State.{Classes, Failure, NonAtomicMode, Outcome, Success, State, Trees}
use Rattle.base_language.specs.Pieces.MetaRules.{name_of}
use Rattle.base_language.specs.declared.grammar.Rule.{Rule}
use Rattle.front_grammar.specs.MetaGrammar.{meta_grammar}
use Rattle.front_grammar.specs.Outcomes.{start_of}
use Rattle.matcher_code.specs.Lists.{CodeLists}
use Rattle.matcher_code.specs.declared.code.Op.TheVariants as op
use Rattle.matcher_code.specs.Failures.{failures_at}
use Rattle.matcher_code.specs.Laid.{IsEnd, at_label}
use Rattle.matcher_code.specs.Reached.{IsAt, MayAsk, Reaches, with_failure, with_success}
use Rattle.matcher_code.specs.Results.{start_config}
use Rattle.matcher_code.specs.Steps.{Config, jump, steps, one_place}
use Rattle.matcher_code.proofs.Existence.{stays_ended}
use Rattle.matcher_code.proofs.Forward.{comes, fail_forward, guard_forward}
use Rattle.matcher_code.proofs.Reaching.{reaching, steps_add}
use Rattle.matcher_machine.specs.declared.machine.Machine.{Machine}
use Rattle.matcher_machine.specs.declared.machine.RunEnd.{RunEnd}
use Rattle.matcher_machine.specs.declared.machine.RunEnd.TheVariants as ended
use Rattle.matcher_machine.specs.Machines.{EndsAtLast, config}
use Rattle.front_code.specs.Codes.{IsCodeOfMetaGrammar}
use Rattle.front_code.specs.Numbers.{number_of}
use Rattle.front_code.specs.Runs.{HasFailed, HasMatched, IsFailure, IsMatch}
use Rattle.front_code.specs.declared.runs.RuleRun.{RuleRun}

-- a machine before its first step
pub record IsFresh (m : Machine) (place : ℕ) : Type 0 where
  pub frames : m.frames.items ≡ []
  pub trees : m.trees.items ≡ []
  pub pushed : m.stack.pushed.items ≡ []
  pub furthest : m.furthest ≡ 0
  pub asked : m.asked ≡ place
  pub names : m.names.items ≡ []

-- the result is that of a machine
pub record IsTaken (m : Machine) (run : RuleRun) : Type 0 where
  pub trees : run.trees ≡ m.trees
  pub furthest : run.furthest ≡ m.furthest
  pub names : run.names ≡ m.names

fresh : (code : CodeLists) (text : List ℕ) (m : Machine) (l place : ℕ) → IsFresh m place → config code text m l 0 ≡ start_config l (one_place place)
fresh code text m l place f =
    let a = f.frames in
    let b = f.trees in
    let d = f.pushed in
    let c = f.furthest in
    let e = f.names in
    let g = f.asked in
    rw (a, b, d, c, e, g) refl

module _ (exact : Bool) (classes : Classes) (code : CodeLists) (is : IsCodeOfMetaGrammar exact classes code) (rule : Rule) (text : List ℕ) (u : IsUtf8 text)
    (bytes : (i : ℕ) → get_or text i 0 < 256) (asked : ℕ) (asks : MayAsk exact text (one_place asked)) where
  abbrev task : Task
  task = Run NonAtomicMode (Ident (name_of rule))

  abbrev label : ℕ
  label = number_of (name_of rule) + 3

  abbrev start : Config
  start = start_config label (one_place asked)

  at_start : IsAt text (start_of text) 0 []
  at_start = record { position = refl; rest = refl; within = omega arith; valid = u; bytes = bytes; texts = refl; valid_texts = All-nil IsUtf8 }

  -- a run that has ended stands where it comes to
  same_end : (m : ℕ) {i j : ℕ} {d : Config} (x : Reaches code text i j start d) → IsEnd code d.pc → IsEnd code (steps code text m start).pc
      → steps code text m start ≡ d
  same_end m {d = d} x e h =
      let z : m + x.taken ≡ x.taken + m = omega arith in
      sym (steps_add code text m x.taken start ∙ stays_ended code text (steps code text m start) h x.taken)
      ∙ (ap (λ k. steps code text k start) z
      ∙ (steps_add code text x.taken m start ∙ (ap (steps code text m) x.same ∙ stays_ended code text d e m)))

  matched : (m : ℕ) {t : State} {us : Trees} (d : Does meta_grammar classes task (start_of text) (Success t us)) → IsEnd code (steps code text m start).pc
      → steps code text m start ≡ jump 1 (with_success number_of t us (failures_at (one_place asked) d) start)
  matched m d h =
      let x = comes code text number_of is.fail exact meta_grammar classes is.points is.laid d (is.laid task label 1 2 (is.entries rule)) start at_start asks (guard_forward 2 0 start (omega arith)) in
      same_end m x.reaches (inl is.halt) h

  failed : (m : ℕ) (d : Does meta_grammar classes task (start_of text) Failure) → IsEnd code (steps code text m start).pc
      → steps code text m start ≡ jump 2 (with_failure number_of (failures_at (one_place asked) d) start)
  failed m d h =
      let x = comes code text number_of is.fail exact meta_grammar classes is.points is.laid d (is.laid task label 1 2 (is.entries rule)) start at_start asks (guard_forward 2 0 start (omega arith)) in
      same_end m (reaching code text x.reaches (fail_forward 2 (with_failure number_of (failures_at (one_place asked) d) start) (omega arith))) (inr is.lose) h

  module _ (old new : Machine) (begins : IsFresh old asked) (most : ℕ) (run : RuleRun) (taken : IsTaken new run) where
    pub has_matched : (end entry : ℕ) (e : RunEnd) → entry ≡ label → e ≡ ended.Found end → EndsAtLast code text most (config code text old entry 0) new e
        → (o : Outcome) → Does meta_grammar classes task (start_of text) o → HasMatched rule text asked run end classes
    has_matched end entry e same is_end y o d = go o d
      where
        x : EndsAtLast code text most (config code text old label 0) new (ended.Found end)
        x = subst (λ z. EndsAtLast code text most (config code text old label 0) new z) is_end (subst (λ l. EndsAtLast code text most (config code text old l 0) new e) same y)

        q : steps code text x.taken start ≡ config code text new x.ends.0 end
        q = ap (steps code text x.taken) (sym (fresh code text old label asked begins)) ∙ x.ends.1

        h : at_label code (steps code text x.taken start).pc ≡ op.Halt
        h = ap (λ c. at_label code c.pc) q ∙ x.ends.2

        go : (o : Outcome) → Does meta_grammar classes task (start_of text) o → HasMatched rule text asked run end classes
        go (Success t us) d =
            let z = sym q ∙ matched x.taken d (inl h) in
            record {
              state = t;
              trees = us;
              found = d;
              ends = ap (λ c. c.at) z;
              nodes = ap (λ v. v.items) taken.trees ∙ ap (λ c. c.trees) z;
              names = ap (λ v. v.items) taken.names ∙ ap (λ c. c.names) z;
            }
        go Failure d =
            let e : at_label code (steps code text x.taken start).pc ≡ at_label code 2 = ap (λ c. at_label code c.pc) (failed x.taken d (inl h)) in
            let z : op.Lose ≡ op.Halt = sym is.lose ∙ (sym e ∙ h) in cc

    pub has_failed : (entry : ℕ) (e : RunEnd) → entry ≡ label → e ≡ ended.Failed → EndsAtLast code text most (config code text old entry 0) new e
        → (o : Outcome) → Does meta_grammar classes task (start_of text) o → HasFailed rule text asked run classes
    has_failed entry e same is_end y o d = go o d
      where
        x : EndsAtLast code text most (config code text old label 0) new ended.Failed
        x = subst (λ z. EndsAtLast code text most (config code text old label 0) new z) is_end (subst (λ l. EndsAtLast code text most (config code text old l 0) new e) same y)

        q : steps code text x.taken start ≡ config code text new x.ends.0 x.ends.1
        q = ap (steps code text x.taken) (sym (fresh code text old label asked begins)) ∙ x.ends.2

        h : at_label code (steps code text x.taken start).pc ≡ op.Lose
        h = ap (λ c. at_label code c.pc) q ∙ x.ends.3

        go : (o : Outcome) → Does meta_grammar classes task (start_of text) o → HasFailed rule text asked run classes
        go Failure d =
            let z = sym q ∙ failed x.taken d (inr h) in
            let most : max 0 (furthest d) ≡ furthest d = omega arith in
            record { found = d; furthest = taken.furthest ∙ (ap (λ c. c.furthest) z ∙ most); names = ap (λ v. v.items) taken.names ∙ ap (λ c. c.names) z }
        go (Success t us) d =
            let e : at_label code (steps code text x.taken start).pc ≡ at_label code 1 = ap (λ c. at_label code c.pc) (matched x.taken d (inr h)) in
            let z : op.Halt ≡ op.Lose = sym is.halt ∙ (sym e ∙ h) in cc

-- without the names
pub is_match : {rule : Rule} {text : List ℕ} {place : ℕ} {run : RuleRun} {end : ℕ} {classes : Classes} → HasMatched rule text place run end classes → IsMatch rule text run end classes
is_match x = record { state = x.state; trees = x.trees; found = x.found; ends = x.ends; nodes = x.nodes }

pub is_failure : {rule : Rule} {text : List ℕ} {place : ℕ} {run : RuleRun} {classes : Classes} → HasFailed rule text place run classes → IsFailure rule text run classes
is_failure x = record { found = x.found; furthest = x.furthest }
