-- A text whose rules are accepted, and whose names are in order, has an answer.
use Rattle.std.proofs.Common.{◌≡◌, ℕ, List, [], ◌∷◌, map, refl, sym, ap, subst}
use Rattle.std.specs.Prelude.{⊤}
use Rattle.std.specs.Borrow.{Bor}
use Rattle.base_language.specs.Language.Expression.{Expression, RestoreOnErr, Grammar}
use Rattle.base_language.specs.Language.State.{Trees}
use Rattle.base_language.specs.Language.Text.{Text}
use Rattle.base_language.specs.Pieces.Saying.{written}
use Rattle.front_names.specs.GrammarNames.{calls, definitions, first_calls}
use Rattle.front_reader.specs.Reading.{Postfix, ReadsRules, Terminal}
use Rattle.front_reader.specs.Reading as reading
use Rattle.front_reader.proofs.ReadParts.{IsGiven, IsHandedDown, parts_so}
use Rattle.front_restorer.specs.Restoring.{HaveNoWrappers}
use Rattle.front_spanned.specs.Erasure.{between, round, rules_without_spans}
use Rattle.front_spanned.specs.Spanned.{Binary, Seq, Choice, Span, SpannedRule, Unary}
use Rattle.front_spanned.specs.Spanned as spanned
use Rattle.pest_meta.specs.Spelling.{AreAccepted, HasAnswer}
use Rattle.pest_meta.specs.WithSpans.{SpellsWithSpans}
use Rattle.pest_meta.specs.Written.{SpellsAccepted}
use Rattle.pest_meta.proofs.Optimizes.{optimizes}

abbrev IsNoWrapper : Expression → Type 0
IsNoWrapper (RestoreOnErr e) = ⊥
IsNoWrapper _ = ⊤

terminal_none : {text : List ℕ} {r : Text} {i j : ℕ} {us : Trees} {e : Expression} → Terminal text r i j us e → IsNoWrapper e
terminal_none reading.identifier = tt
terminal_none reading.string = tt
terminal_none reading.insensitive = tt
terminal_none reading.range = tt
terminal_none reading.slice = tt
terminal_none reading.slice_from = tt
terminal_none reading.slice_to = tt
terminal_none reading.slice_between = tt

round_none : (f : Unary) (e : Expression) → IsNoWrapper (round f e)
round_none spanned.PosPred e = tt
round_none spanned.NegPred e = tt
round_none spanned.Opt e = tt
round_none spanned.Rep e = tt
round_none spanned.RepOnce e = tt
round_none (spanned.RepExact i) e = tt
round_none (spanned.RepMin i) e = tt
round_none (spanned.RepMax i) e = tt
round_none (spanned.RepMinMax i j) e = tt
round_none spanned.Push e = tt
round_none (spanned.Tag t) e = tt

between_none : (f : Binary) (a b : Expression) → IsNoWrapper (between f a b)
between_none Seq a b = tt
between_none Choice a b = tt

-- of the trees nothing is asked
abbrev AnyTrees : Trees → Type 0
AnyTrees us = ⊤

handed_down : IsHandedDown AnyTrees
handed_down = record { inner = λ r i j us vs h. tt; behind = λ r i j us vs h. tt; front = λ us vs e h. tt }

given : (text : List ℕ) → IsGiven text AnyTrees IsNoWrapper
given text = record {
  terminal = λ vs t h. terminal_none t;
  postfix = λ {f = f} p h e. round_none f e;
  positive = λ e. tt;
  negative = λ e. tt;
  push = λ e. tt;
  literal_push = λ vs h. tt;
  tag = λ us h e. tt;
  between_two = between_none;
}

-- what is read has no wrapper
read_bare : (text : List ℕ) {us : Trees} {rules : List SpannedRule} → ReadsRules text us rules → HaveNoWrappers (rules_without_spans rules)
read_bare text d e k = parts_so text AnyTrees IsNoWrapper handed_down (given text) d tt (RestoreOnErr e) k

accepted_bare : (text : List ℕ) (us : Trees) (rules : Grammar) → AreAccepted text us rules → HaveNoWrappers rules
accepted_bare text us rules a = subst HaveNoWrappers (sym a.give.same) (read_bare text a.give.reads)

-- texts as they are written in places
as_written : Span → Bor (List ℕ)
as_written s = record { ref_ptr = (0, 0); now = written s }

are_written : (places : List Span) → map (λ (t : Bor (List ℕ)). t.now) (map as_written places) ≡ map written places
unfolding as_written
are_written [] = refl
are_written (s ∷ places) = ap (λ texts. written s ∷ texts) (are_written places)

pub accepted_have_answers : (text : List ℕ) (rules : Grammar) → SpellsAccepted text rules → HasAnswer text
accepted_have_answers text rules s =
    let places = first_calls (definitions text s.trees) (calls text s.trees) in
    let o = optimizes rules (accepted_bare text s.trees rules s.accepted) in (
      map as_written places,
      o.0,
      record {
        trees = s.trees;
        of_text = s.of_text;
        well_named = s.well_named;
        uses = are_written places;
        spelled = rules;
        accepted = s.accepted;
        optimized = o.1;
      },
    )

pub spelled_have_answers : (text : List ℕ) (builtins : List (Bor (List ℕ))) (rules : List SpannedRule) → SpellsWithSpans text builtins rules → HasAnswer text
spelled_have_answers text builtins rules s =
    accepted_have_answers text (rules_without_spans rules)
    (record { trees = s.trees; of_text = s.of_text; well_named = s.well_named; accepted = s.accepted })
