-- What comes of a rule that fails on a text, by what the matcher answers.
use Rattle.std.proofs.Common.{◌≡◌, ◌≢◌, ◌≤◌, ◌⊎◌, ◌∙◌, ◌∷◌, ◌++◌, ◌&&◌, ◌+◌, ap, ap₂, arith, inl, inr, refl, sym, subst, ℕ, Bool, true, false, List, [], None, Option, Some, drop, if◌then◌else◌, length, nat_le}
use Rattle.std.specs.Prelude.{IsUtf8, option_map, string_bytes}
use Rattle.std.proofs.Math.Utf8.{encodes}
use Rattle.std.proofs.Math.Logic.{∥∥₁_map}
use Rattle.std.proofs.lemmas.Bool.{true≢false}
use Rattle.std.proofs.lemmas.Str.{encodes-chars}
use Rattle.std.specs.Borrow.{Bor}
use Rattle.std.specs.Str.{chars, IsCharBoundary}
use Rattle.base_ast.specs.Ast.{text_of}
use Rattle.base_language.specs.Language.Expression.{Grammar, Ident}
use Rattle.base_language.specs.Language.Expected.{expected, expected_at}
use Rattle.base_language.specs.Language.FurthestFailure.{furthest}
use Rattle.base_language.specs.Language.Meaning.{Run}
use Rattle.base_language.specs.Language.State.{NonAtomicMode, Outcome as Result}
use Rattle.base_language.specs.Language.Places.{IsStateIn}
use Rattle.base_language.specs.Language.Text.{Text}
use Rattle.base_language.specs.Pieces.LineColumn.{line_column}
use Rattle.base_language.proofs.ExpectedOnce.{one_list}
use Rattle.base_language.proofs.FailuresStand.{stands_at}
use Rattle.base_language.proofs.InBytes.{on_bytes}
use Rattle.base_language.proofs.TreesAreNested.{fits as fits_in}
use Rattle.matcher_code.specs.Attempts.{attempts_at}
use Rattle.matcher_code.proofs.OneDerivation.{one_answer}
use Rattle.matcher_engine.specs.FailureAttempts.{attempt_place}
use Rattle.matcher_program.specs.Refusals.{IsReason}
use Rattle.matcher_program.specs.declared.compile.Unfit.{Unfit}
use Rattle.matcher_program.specs.declared.compile.Unfit.TheVariants as no
use Rattle.matcher_engine.specs.BlockRuns.{IsStopped}
use Rattle.matcher_engine.specs.ParseTrees.{HasEnd, HasParseTree}
use Rattle.matcher_engine.specs.Limits.{steps_of}
use Rattle.pest_run.specs.Steps.{match_limit, step_limit}
use Rattle.matcher_engine.specs.Reasons as longer
use Rattle.matcher_engine.specs.Reasons.{IsLonger}
use Rattle.matcher_engine.specs.declared.block.runs.BlockStop.{BlockStop}
use Rattle.matcher_engine.specs.declared.block.runs.BlockStop.TheVariants as block
use Rattle.matcher_engine.specs.declared.matcher.ParseTree.{ParseTree}
use Rattle.matcher_program.specs.Answers.{Has, start_of}
use Rattle.matcher_program.specs.declared.answers.Stop.{Stop}
use Rattle.matcher_program.specs.declared.answers.Stop.TheVariants as stop
use Rattle.matcher_program.specs.ExpectedNames.{each_once, is_among, name_texts, with_names}
use Rattle.matcher_support.specs.Compiled.{AreExpectedIn, FailsIn, IsRefusedBy, IsUnanswered}
use Rattle.matcher_support.specs.Sets.{has_set, is_in_property}
use Rattle.matcher_support.specs.Compiled.{AreAttemptsIn}
use Rattle.pest_run.specs.Failures.{AreOfError, IsFound}
use Rattle.pest_run.specs.Outcomes.{HasNoRule, IsFailureReport, IsMatchReport, IsNoRuleReport, IsNoted, IsOutcome, IsStopReport, IsUnnamedMatchReport, IsUnnamedReport, ReportsAt, TakesTooManySteps, end_note, tells_expected, trees_text, unfit_outcome}
use Rattle.pest_run.specs.Messages.{expected_text, is_more, note_between, unnamed_end_text, unnamed_text}
use Rattle.pest_run.specs.declared.arguments.Format.{Format}
use Rattle.pest_run.specs.declared.arguments.Format.TheVariants as format_is
use Rattle.pest_run.specs.declared.arguments.Limits.{Limits}
use Rattle.matcher_support.specs.declared.attempts.NamedAttempts.{NamedAttempts}
use Rattle.pest_run.specs.declared.outcomes.Outcome.{Outcome}
use Rattle.pest_run.specs.declared.outcomes.Outcome.TheVariants as is

-- why a run was stopped, with the same number of steps
pub limit_of : (g : Grammar) (rule text : List ℕ) (m n : ℕ) (why : Stop) → m ≡ n → IsStopped g (chars rule) (start_of text) is_in_property m why → IsStopped g (chars rule) (start_of text) is_in_property n why
limit_of g rule text m n why e h = subst (λ k. IsStopped g (chars rule) (start_of text) is_in_property k why) e h

-- why a run gives no match, if it is not out of steps, does not depend on how many were allowed
pub any_steps : (g : Grammar) (rule text : List ℕ) (few steps : ℕ) (why : BlockStop) → why ≢ block.Stopped stop.OutOfSteps → IsRefusedBy g rule text few why → IsRefusedBy g rule text steps why
any_steps g rule text few steps (block.NoMatch place) other h = h
any_steps g rule text few steps (block.Stopped stop.Memory) other h = h
any_steps g rule text few steps (block.Stopped stop.OutOfSteps) other h = absurd (other refl)
any_steps g rule text few steps (block.Stopped stop.EmptyStack) other h = h
any_steps g rule text few steps (block.Stopped stop.TextTooLong) other h = h
any_steps g rule text few steps block.NoRule other h = h
any_steps g rule text few steps (block.Flaw flaw) other h = h

-- so is why it has no answer
pub any_limit : (g : Grammar) (rule text : List ℕ) (few steps : ℕ) (why : BlockStop) → why ≢ block.Stopped stop.OutOfSteps → IsUnanswered g rule text few why → IsUnanswered g rule text steps why
any_limit g rule text few steps (block.NoMatch place) other h = h
any_limit g rule text few steps (block.Stopped stop.Memory) other h = h
any_limit g rule text few steps (block.Stopped stop.OutOfSteps) other h = absurd (other refl)
any_limit g rule text few steps (block.Stopped stop.EmptyStack) other h = h
any_limit g rule text few steps (block.Stopped stop.TextTooLong) other h = h
any_limit g rule text few steps block.NoRule other h = h
any_limit g rule text few steps (block.Flaw flaw) other h = h

-- a longer run than one of some steps is longer than one of fewer
longer_than : (g : Grammar) (rule text : List ℕ) (few steps : ℕ) → few ≤ steps → IsLonger g is_in_property (chars rule) (start_of text) steps → IsLonger g is_in_property (chars rule) (start_of text) few
longer_than g rule text few steps below (longer.ends d more) = longer.ends d (omega (arith, below, more))
longer_than g rule text few steps below (longer.comes w more) = longer.comes w (omega (arith, below, more))

-- a run that takes too many steps takes more than a smaller number
pub fewer_steps : (g : Grammar) (rule text : List ℕ) (few steps : ℕ) (why : BlockStop) → few ≤ steps → IsRefusedBy g rule text steps why → IsRefusedBy g rule text few why
fewer_steps g rule text few steps (block.NoMatch place) below h = h
fewer_steps g rule text few steps (block.Stopped stop.Memory) below h = h
fewer_steps g rule text few steps (block.Stopped stop.OutOfSteps) below h =
    (λ o d. omega (arith, below, h.0 o d), ∥∥₁_map h.1 (longer_than g rule text few steps below))
fewer_steps g rule text few steps (block.Stopped stop.EmptyStack) below h = h
fewer_steps g rule text few steps (block.Stopped stop.TextTooLong) below h = h
fewer_steps g rule text few steps block.NoRule below h = h
fewer_steps g rule text few steps (block.Flaw flaw) below h = h

-- the names that are expected at a position of a derivation
expects_at : (g : Grammar) (rule text : List ℕ) (place : ℕ) (names : List (Bor (List ℕ))) {o : Result} (d : Has g (chars rule) text is_in_property o)
    → AreExpectedIn g rule text place names → name_texts names ≡ each_once (expected_at place d)
expects_at g rule text place names d a = a.2 ∙ ap each_once (one_list g is_in_property place a.1 d)

-- the names that are expected at the furthest failure of a derivation
expects : (g : Grammar) (rule text : List ℕ) (place : ℕ) (names : List (Bor (List ℕ))) {o : Result} (d : Has g (chars rule) text is_in_property o)
    → AreExpectedIn g rule text place names → place ≡ furthest d → name_texts names ≡ each_once (expected d)
expects g rule text place names d a e =
    expects_at g rule text place names d a ∙ ap (λ p. each_once (expected_at p d)) e

-- names that are added to some leave some
keeps_some : (m : Text) (ms ns : List Text) → with_names (m ∷ ms) ns ≡ [] → ⊥
keeps_some m ms [] e = cc
keeps_some m ms (n ∷ ns) e =
    elim (is_among (m ∷ ms) n) as (λ b. with_names (if b then m ∷ ms else m ∷ (ms ++ n ∷ [])) ns ≡ [] → ⊥) [
      | true ↦ keeps_some m ms ns
      | false ↦ keeps_some m (ms ++ n ∷ []) ns
    ] e

-- if each name once is none, there is none
none_once : (ns : List Text) → [] ≡ each_once ns → ns ≡ []
none_once [] e = refl
none_once (n ∷ ns) e = absurd (keeps_some n [] ns (sym e))

-- if no name is expected, and those of pest's error are told
of_error : (g : Grammar) (rule text : List ℕ) (place : ℕ) (it : NamedAttempts) {o : Result} (d : Has g (chars rule) text is_in_property o)
    → place ≡ furthest d → AreExpectedIn g rule text place [] → AreAttemptsIn g rule text it → AreOfError d it.place (name_texts it.positives.items) (name_texts it.negatives.items)
of_error g rule text place it {o = o} d e a x =
    let one = one_answer g is_in_property {k = Run NonAtomicMode (Ident (chars rule))} {s = start_of text} (x.outcome, x.found) (o, d) in
    record {
      none = none_once (expected d) (expects g rule text place [] d a e);
      at_place = x.place ∙ ap (λ r. attempt_place r.1) one;
      positives = x.positives ∙ ap (λ r. each_once (attempts_at false it.place r.1).positives) one;
      negatives = x.negatives ∙ ap (λ r. each_once (attempts_at false it.place r.1).negatives) one;
    }

-- what is told of the place of the failure, and of its names, is told of the failure
pub failed : (g : Grammar) (rule name text : List ℕ) (format : Format) (limit : Limits) (place : ℕ) (it : NamedAttempts) (o : Outcome)
    → FailsIn g rule text place → IsFound g rule text place it → IsFailureReport name text it o
    → IsOutcome g rule name text format limit o
failed g rule name text format limit place it (is.Shown lines _) f a t = absurd t
failed g rule name text format limit place it (is.Failed report) f a t = record {
  fails = f.0;
  place = it.place;
  names = name_texts it.positives.items;
  others = name_texts it.negatives.items;
  are = elim a [
    | inl at ↦ inl (at.0 ∙ f.1, expects g rule text place it.positives.items f.0 at.1 f.1, ap name_texts at.2)
    | inr error ↦ inr (of_error g rule text place it f.0 f.1 error.0 error.1)
  ];
  reports = t;
}
failed g rule name text format limit place it (is.Unnamed report) f a t = absurd t
failed g rule name text format limit place it (is.NoRule message) f a t = absurd t
failed g rule name text format limit place it (is.OutOfSteps said) f a t = absurd t
failed g rule name text format limit place it is.EmptyStack f a t = absurd t
failed g rule name text format limit place it is.LongText f a t = absurd t
failed g rule name text format limit place it is.UnknownName f a t = absurd t
failed g rule name text format limit place it is.Bound f a t = absurd t
failed g rule name text format limit place it is.Memory f a t = tt

-- what is told of a failure of which the expected names were not found
pub unnamed : (g : Grammar) (rule name text : List ℕ) (format : Format) (limit : Limits) (place : ℕ) (o : Outcome)
    → FailsIn g rule text place → TakesTooManySteps g rule text limit.names → IsUnnamedReport name text place limit.names o
    → IsOutcome g rule name text format limit o
unnamed g rule name text format limit place (is.Unnamed report) f long t =
    let P : ℕ → Type 0 = λ q. ReportsAt name text q (unnamed_text limit.names) (string_bytes report) in
    record { fails = f.0; long = long; reports = subst P f.1 t }
unnamed g rule name text format limit place (is.Shown lines _) f long t = absurd t
unnamed g rule name text format limit place (is.Failed report) f long t = absurd t
unnamed g rule name text format limit place (is.NoRule message) f long t = absurd t
unnamed g rule name text format limit place (is.OutOfSteps said) f long t = absurd t
unnamed g rule name text format limit place is.EmptyStack f long t = absurd t
unnamed g rule name text format limit place is.LongText f long t = absurd t
unnamed g rule name text format limit place is.UnknownName f long t = absurd t
unnamed g rule name text format limit place is.Bound f long t = absurd t
unnamed g rule name text format limit place is.Memory f long t = tt

-- what is told of a name that no rule has
pub unknown : (g : Grammar) (rule name text : List ℕ) (format : Format) (limit : Limits) (o : Outcome) → HasNoRule g rule → IsNoRuleReport g rule o
    → IsOutcome g rule name text format limit o
unknown g rule name text format limit (is.Shown lines _) h t = absurd t
unknown g rule name text format limit (is.Failed report) h t = absurd t
unknown g rule name text format limit (is.Unnamed report) h t = absurd t
unknown g rule name text format limit (is.NoRule message) h t = (h, t)
unknown g rule name text format limit (is.OutOfSteps said) h t = absurd t
unknown g rule name text format limit is.EmptyStack h t = absurd t
unknown g rule name text format limit is.LongText h t = absurd t
unknown g rule name text format limit is.UnknownName h t = absurd t
unknown g rule name text format limit is.Bound h t = absurd t
unknown g rule name text format limit is.Memory h t = tt

-- whether the note tells what is expected, or not
told : (b : Bool) → (b ≡ true) ⊎ (b ≡ false)
told true = inl refl
told false = inr refl

-- a note that does not tell what is expected is the same for all names
same_text : (more after : Bool) (start : List ℕ) (place : ℕ × ℕ) (ns ms : List Text) → after && more ≡ false
    → (if more then Some (start ++ (if after then expected_text place ns else [])) else None) ≡ (if more then Some (start ++ (if after then expected_text place ms else [])) else None)
same_text false after start place ns ms h = refl
same_text true false start place ns ms h = refl
same_text true true start place ns ms h = absurd (true≢false h)

same_note : (format : Format) (text : List ℕ) (end_ place : ℕ) (ns ms : List Text) → tells_expected format text end_ place ≡ false
    → end_note format text end_ place ns ≡ end_note format text end_ place ms
same_note format_is.Text text end_ place ns ms h = same_text (is_more (drop end_ text)) (nat_le end_ place) (note_between (line_column text end_) (line_column text (length text))) (line_column text place) ns ms h
same_note format_is.Json text end_ place ns ms h = refl
same_note format_is.Lines text end_ place ns ms h = refl

-- what is told of a match is told of what the rule gives
module _ (g : Grammar) (rule name text : List ℕ) (format : Format) (limit : Limits) (it : ParseTree) (found : HasParseTree g (chars rule) (start_of text) is_in_property it) where
  -- if the note on it has these names
  noted : (names : List Text) (note : Option (List ℕ)) → names ≡ each_once (expected found.found)
      → note ≡ end_note format text it.end it.furthest names → IsNoted g rule text format limit.names note
  noted names note a t =
      let P : ℕ → ℕ → List Text → Option (List ℕ) = end_note format text in
      record {
        end_ = found.state;
        trees = found.trees;
        matches = found.found;
        tells = inl (t ∙ (ap₂ (λ e p. P e p names) found.ends found.place ∙ ap (P found.state.position (furthest found.found)) a));
      }

  -- if the names are known if the note tells them
  notes : (names : List (Bor (List ℕ))) (note : Option (List ℕ)) → (tells_expected format text it.end it.furthest ≡ true → AreExpectedIn g rule text it.furthest names)
      → note ≡ end_note format text it.end it.furthest (name_texts names) → IsNoted g rule text format limit.names note
  notes names note a t =
      let all = each_once (expected found.found) in
      elim (told (tells_expected format text it.end it.furthest)) [
        | inl h ↦ noted (name_texts names) note (expects g rule text it.furthest names found.found (a h) found.place) t
        | inr h ↦ noted all note refl (t ∙ same_note format text it.end it.furthest (name_texts names) all h)
      ]

  pub shows : (names : List (Bor (List ℕ))) (o : Outcome) → IsMatchReport text format it.end it.furthest (name_texts names) found.trees o
      → (tells_expected format text it.end it.furthest ≡ true → AreExpectedIn g rule text it.furthest names)
      → IsOutcome g rule name text format limit o
  shows names (is.Shown lines note) t a = (
    record { end_ = found.state; trees = found.trees; matches = found.found; lines_show = t.0 ∙ ap (λ e. trees_text format text e found.trees) found.ends },
    notes names (option_map string_bytes note) a t.1,
  )
  shows names (is.Failed report) t a = absurd t
  shows names (is.Unnamed report) t a = absurd t
  shows names (is.NoRule message) t a = absurd t
  shows names (is.OutOfSteps said) t a = absurd t
  shows names is.EmptyStack t a = absurd t
  shows names is.LongText t a = absurd t
  shows names is.UnknownName t a = absurd t
  shows names is.Bound t a = absurd t
  shows names is.Memory t a = tt

  -- if they were not found
  pub shows_unnamed : (o : Outcome) → IsUnnamedMatchReport text format it.end it.furthest limit.names found.trees o
      → tells_expected format text it.end it.furthest ≡ true → TakesTooManySteps g rule text limit.names → IsOutcome g rule name text format limit o
  shows_unnamed (is.Shown lines note) t asked long =
      let P : ℕ → ℕ → Option (List ℕ) = λ e p. Some (unnamed_end_text text e p limit.names) in (
        record { end_ = found.state; trees = found.trees; matches = found.found; lines_show = t.0 ∙ ap (λ e. trees_text format text e found.trees) found.ends },
        record {
          end_ = found.state;
          trees = found.trees;
          matches = found.found;
          tells = inr (sym (ap₂ (tells_expected format text) found.ends found.place) ∙ asked, long, t.1 ∙ ap₂ P found.ends found.place);
        },
      )
  shows_unnamed (is.Failed report) t asked long = absurd t
  shows_unnamed (is.Unnamed report) t asked long = absurd t
  shows_unnamed (is.NoRule message) t asked long = absurd t
  shows_unnamed (is.OutOfSteps said) t asked long = absurd t
  shows_unnamed is.EmptyStack t asked long = absurd t
  shows_unnamed is.LongText t asked long = absurd t
  shows_unnamed is.UnknownName t asked long = absurd t
  shows_unnamed is.Bound t asked long = absurd t
  shows_unnamed is.Memory t asked long = tt

-- the furthest failure of a derivation is one of the text
stands_here : (g : Grammar) (n : Text) (text : List ℕ) (place : ℕ) {o : Result} (d : Has g n text is_in_property o) → IsUtf8 text → place ≡ furthest d → IsCharBoundary text place
stands_here g n text place d utf8 e =
    let stands : IsStateIn (chars text) (start_of text) = record { front = []; split = refl; size = refl } in
    let here : IsCharBoundary text (furthest d) = on_bytes text utf8 (furthest d) (stands_at (chars text) d stands) in
    subst (λ n. IsCharBoundary text n) (sym e) here

-- a match ends between two characters, and so does its furthest failure
pub end_at_character : (g : Grammar) (n : Text) (text : List ℕ) (end_ : ℕ) → IsUtf8 text → HasEnd g n (start_of text) is_in_property end_
    → IsCharBoundary text end_
end_at_character g n text end_ utf8 x =
    let start : IsStateIn (chars text) (start_of text) = record { front = []; split = refl; size = refl } in
    let inside = (fits_in (chars text) x.found start).0 in
    let here : IsCharBoundary text x.state.position = on_bytes text utf8 x.state.position (record { front = inside.front; back = x.state.rest; split = inside.split; size = inside.size }) in
    subst (λ n. IsCharBoundary text n) (sym x.ends) here

pub ends_at_character : (g : Grammar) (n : Text) (text : List ℕ) (it : ParseTree) → IsUtf8 text → HasParseTree g n (start_of text) is_in_property it
    → IsCharBoundary text it.end
ends_at_character g n text it utf8 x =
    end_at_character g n text it.end utf8 (record { state = x.state; trees = x.trees; found = x.found; ends = x.ends })

pub stops_at_character : (g : Grammar) (n : Text) (text : List ℕ) (it : ParseTree) → IsUtf8 text → HasParseTree g n (start_of text) is_in_property it
    → IsCharBoundary text it.furthest
stops_at_character g n text it utf8 x = stands_here g n text it.furthest x.found utf8 x.place

-- the place of the failure is one of the text
pub at_character : (g : Grammar) (rule text : List ℕ) (place : ℕ) → IsUtf8 text → FailsIn g rule text place → IsCharBoundary text place
at_character g rule text place utf8 f = stands_here g (chars rule) text place f.0 utf8 f.1

-- what comes of a run that was stopped is what the matcher says of it
pub stopped : (g : Grammar) (rule name text : List ℕ) (format : Format) (limit : Limits) (why : Stop) (o : Outcome) → IsUtf8 text
    → IsStopped g (chars rule) (start_of text) is_in_property limit.steps why → IsStopReport why limit.steps o → IsOutcome g rule name text format limit o
stopped g rule name text format limit stop.Memory o utf8 h t =
    let P : Outcome → Type 0 = λ o. IsOutcome g rule name text format limit o in
    subst P (sym t) tt
stopped g rule name text format limit stop.EmptyStack o utf8 h t =
    let P : Outcome → Type 0 = λ o. IsOutcome g rule name text format limit o in
    subst P (sym t) h
stopped g rule name text format limit stop.TextTooLong o utf8 h t =
    let P : Outcome → Type 0 = λ o. IsOutcome g rule name text format limit o in
    let size : 0 + length (encodes (chars text)) ≡ length text = omega (arith, ap length (encodes-chars text utf8)) in
    subst P (sym t) (omega (arith, h, size))
stopped g rule name text format limit stop.OutOfSteps (is.OutOfSteps said) utf8 h t = (h, t)
stopped g rule name text format limit stop.OutOfSteps is.Memory utf8 h t = tt
stopped g rule name text format limit stop.OutOfSteps (is.Shown lines _) utf8 h t = absurd t
stopped g rule name text format limit stop.OutOfSteps (is.Failed report) utf8 h t = absurd t
stopped g rule name text format limit stop.OutOfSteps (is.Unnamed report) utf8 h t = absurd t
stopped g rule name text format limit stop.OutOfSteps (is.NoRule message) utf8 h t = absurd t
stopped g rule name text format limit stop.OutOfSteps is.EmptyStack utf8 h t = absurd t
stopped g rule name text format limit stop.OutOfSteps is.LongText utf8 h t = absurd t
stopped g rule name text format limit stop.OutOfSteps is.UnknownName utf8 h t = absurd t
stopped g rule name text format limit stop.OutOfSteps is.Bound utf8 h t = absurd t

-- rules that can't be run call an unknown name, or have a wrong bound
pub unfit : (g : Grammar) (rule name text : List ℕ) (format : Format) (limit : Limits) (why : Unfit) → IsReason has_set g why → IsOutcome g rule name text format limit (unfit_outcome why)
unfit g rule name text format limit no.Memory h = tt
unfit g rule name text format limit (no.UnknownName called) h = (text_of called, h.0, h.1)
unfit g rule name text format limit (no.Bound bound) h = (text_of bound, h.0, h.1)

-- the limit of a match is no less than that of a rule that uses the stack
pub within_match_limit : (limit : Option ℕ) (length : ℕ) (uses_stack : Bool) (most : Option ℕ) → most ≡ match_limit limit uses_stack length
    → step_limit limit length ≤ steps_of most
within_match_limit (Some steps) length uses_stack most e = subst (λ m. steps ≤ steps_of m) (sym e) (omega arith)
within_match_limit None length true most e = subst (λ m. step_limit None length ≤ steps_of m) (sym e) (omega arith)
within_match_limit None length false most e = subst (λ m. step_limit None length ≤ steps_of m) (sym e) (omega arith)
