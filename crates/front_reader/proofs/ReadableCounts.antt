-- What is read without a flaw has readable counts.
use Rattle.std.proofs.Common.{◌≡◌, ℕ, suc, zero, ◌<◌, List, Some, None, Bool, true, false, if◌then◌else◌, arith}
use Rattle.std.specs.Prelude.{nat_eq}
use Rattle.base_language.specs.Language.Text.{Text}
use Rattle.base_language.specs.Language.Expression.{Expression}
use Rattle.base_language.specs.Language.State.{Trees}
use Rattle.base_language.specs.Language.WellFormed.{CountIsReadable, HasReadableCounts}
use Rattle.front_spanned.specs.Erasure.{round, between, rules_without_spans}
use Rattle.front_spanned.specs.Spanned.{Unary, Binary, Seq, Choice, SpannedRule}
use Rattle.front_reader.specs.Flaws.{Flaw, own_flaw, zero_times, first_flaw}
use Rattle.front_reader.specs.Reading as reading
use Rattle.front_reader.specs.Reading.{number, Postfix, Terminal, ReadsRules}
use Rattle.front_reader.proofs.Flawless.{none_left, none_right, inner_none, behind_none, front_none}
use Rattle.front_reader.proofs.ReadParts.{IsHandedDown, IsGiven, parts_so}

module _ (text : List ℕ) where
  not_zero : (n : ℕ) (f : Flaw) → (if nat_eq n 0 then Some f else None) ≡ None → 0 < n
  not_zero zero f h = cc
  not_zero (suc n) f h = omega arith

  counts : (i j : ℕ) → zero_times text i j ≡ None → 0 < number text i j
  counts i j h = not_zero (number text i j) _ h

  postfix_readable : {r : Text} {us : Trees} {f : Unary} → Postfix text r us f → first_flaw text us ≡ None
      → (e : Expression) → CountIsReadable (round f e)
  unfolding own_flaw
  postfix_readable reading.opt h e = tt
  postfix_readable reading.rep h e = tt
  postfix_readable reading.rep_once h e = tt
  postfix_readable (reading.exact {number_at = i} {number_to = j}) h e = counts i j (none_right _ _ (none_left _ _ h))
  postfix_readable reading.min h e = tt
  postfix_readable (reading.max {number_at = i} {number_to = j}) h e = counts i j (none_right _ _ (none_left _ _ h))
  postfix_readable (reading.min_max {most_at = k} {most_to = l}) h e = counts k l (none_right _ _ (none_left _ _ (none_right _ _ h)))

  terminal_readable : {r : Text} {i j : ℕ} {us : Trees} {e : Expression} → Terminal text r i j us e
      → CountIsReadable e
  terminal_readable reading.identifier = tt
  terminal_readable reading.string = tt
  terminal_readable reading.insensitive = tt
  terminal_readable reading.range = tt
  terminal_readable reading.slice = tt
  terminal_readable reading.slice_from = tt
  terminal_readable reading.slice_to = tt
  terminal_readable reading.slice_between = tt

  between_readable : (f : Binary) (a b : Expression) → CountIsReadable (between f a b)
  between_readable Seq a b = tt
  between_readable Choice a b = tt

  abbrev HasNoFlaw : Trees → Type 0
  HasNoFlaw us = first_flaw text us ≡ None

  handed_down : IsHandedDown HasNoFlaw
  handed_down = record { inner = inner_none text; behind = behind_none text; front = front_none text }

  readable_given : IsGiven text HasNoFlaw CountIsReadable
  readable_given = record {
    terminal = λ vs t h. terminal_readable t;
    postfix = λ p h e. postfix_readable p h e;
    positive = λ e. tt;
    negative = λ e. tt;
    push = λ e. tt;
    literal_push = λ vs h. tt;
    tag = λ us h e. tt;
    between_two = between_readable;
  }

  pub counts_readable : {us : Trees} {rs : List SpannedRule} → ReadsRules text us rs
      → first_flaw text us ≡ None → HasReadableCounts (rules_without_spans rs)
  counts_readable d h = parts_so text HasNoFlaw CountIsReadable handed_down readable_given d h
