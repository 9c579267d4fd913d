-- A fact of the trees of a text holds of each of them, if it holds of the trees that rules give.
use Rattle.std.proofs.Common.{◌≡◌, sym, subst, ℕ, List, [], ◌∷◌, Bool, true, false, Option, Some, None, if◌then◌else◌, nat_eq, ◌==◌, length, chars, codes, refl}
use Rattle.std.specs.Char.{eq_ignore_ascii_case}
use Rattle.base_language.specs.Language.Expression as spec
use Rattle.base_language.specs.Language.Text.{Text}
use Rattle.base_language.specs.Language.Builtins.{Builtin, One, Property, Newline, Soi, Eoi, Peek, Pop, Drop, PeekAll, PopAll, builtin_of}
use Rattle.base_language.specs.Language.Expression.{rule_of}
use Rattle.base_language.specs.Language.State.{Classes, State, Mode, NonAtomicMode, AtomicMode, CompoundAtomicMode, Between, Trees, None', Tree, joined, Outcome, Success, Failure, moved}
use Rattle.base_language.specs.Language.Matching.{begins, text_outcome, starts_in, character_outcome, range_set, place, end_place, slice_at, end_outcome, with_stack, peek_outcome, pop_outcome, drop_outcome, concatenated, builtin_outcome, named_outcome, other_outcome}
use Rattle.base_language.specs.Language.Meaning.{Does, Task, Run, str, insens, range, slice, skip, call, other, pos_pred, neg_pred, push, restore, seq, seq_first, seq_second, left, right, opt, opt_none, rep, rep_none, turn, turn_none, rep_once, rep_exact, rep_min, rep_max, rep_min_max, skips, atomic, compound_atomic, between, ahead, not_ahead, pushed, with_token, gives_token, body_mode, push_literal, tag}
use Rattle.base_language.specs.Language.Places.{IsStateIn}
use Rattle.base_language.specs.Pieces.MetaRules.{name_of}
use Rattle.base_language.specs.declared.grammar.Rule.{Rule}
use Rattle.base_language.proofs.TreesAreNested.{fits}
use Rattle.front_grammar.specs.MetaGrammar.{meta_grammar, rule_at, type_of_rule, body_of}
use Rattle.front_grammar.specs.Outcomes.{start_of}
use Rattle.front_grammar.proofs.MetaWellFormed.{known}
use Rattle.front_grammar.proofs.Naming.{rule_named, named_rule}
use Rattle.pest_meta.proofs.Spelled.{empty_classes}
use Rattle.pest_meta.specs.Spelling.{HasTrees}

-- it holds of each tree, as a rule's tree, from one position to another, with the trees in it
abbrev pub HoldEach : (Option Rule → ℕ → ℕ → Trees → Type 0) → Trees → Type 0
HoldEach P None' = Unit {0}
HoldEach P (Tree r i j inner others) = P (rule_named r) i j inner × HoldEach P inner × HoldEach P others

module _ (P : Option Rule → ℕ → ℕ → Trees → Type 0) (at_end : (i : ℕ) → P (rule_named (codes "EOI")) i i None') where
  abbrev OfOutcome : Outcome → Type 0
  OfOutcome Failure = Unit {0}
  OfOutcome (Success t us) = HoldEach P us

  of_both : (us vs : Trees) → HoldEach P us → HoldEach P vs → HoldEach P (joined us vs)
  of_both None' vs h k = k
  of_both (Tree r i j inner others) vs h k = (h.0, h.1, of_both others vs h.2 k)

  -- 1. builtins and leaves give no tree, but that of the end
  of_test : (b : Bool) (t : State) → OfOutcome (if b then Success t None' else Failure)
  of_test true t = tt
  of_test false t = tt

  of_text : (alike : ℕ → ℕ → Bool) (t : Text) (s : State) → OfOutcome (text_outcome alike t s)
  of_text alike t s = of_test (begins alike t s.rest) _

  of_one : (set : ℕ → Bool) (s : State) → OfOutcome (character_outcome set s)
  of_one set s = of_test (starts_in set s.rest) _

  of_slice : (i j : Option ℕ) (s : State) → OfOutcome (slice_at i j s)
  of_slice (Some i) (Some j) s = of_text nat_eq _ s
  of_slice (Some i) None s = tt
  of_slice None j s = tt

  of_stack : (ts : List Text) (o : Outcome) → OfOutcome o → OfOutcome (with_stack ts o)
  of_stack ts Failure h = tt
  of_stack ts (Success t us) h = h

  of_newline : (s : State) (a b : Bool) → OfOutcome (if a then Success (moved 1 s) None' else (if b then Success (moved 2 s) None' else text_outcome nat_eq (13 ∷ []) s))
  of_newline s true b = tt
  of_newline s false true = tt
  of_newline s false false = of_text nat_eq (13 ∷ []) s

  of_end : (m : Mode) (v : Text) (s : State) → OfOutcome (end_outcome m v s)
  of_end AtomicMode [] s = tt
  of_end NonAtomicMode [] s = (at_end s.position, tt, tt)
  of_end CompoundAtomicMode [] s = (at_end s.position, tt, tt)
  of_end Between [] s = (at_end s.position, tt, tt)
  of_end m (c ∷ v) s = tt

  of_drop : (ts : List Text) (s : State) → OfOutcome (drop_outcome ts s)
  of_drop [] s = tt
  of_drop (t ∷ ts) s = tt

  along : (o p : Outcome) → Some o ≡ Some p → OfOutcome o → OfOutcome p
  along o p e x = let q : o ≡ p = cc in rw (← q) x

  of_peek : (ts : List Text) (s : State) (o : Outcome) → peek_outcome ts s ≡ Some o → OfOutcome o
  of_peek [] s o e = cc
  of_peek (t ∷ ts) s o e = along _ o e (of_text nat_eq t s)

  of_pop : (ts : List Text) (s : State) (o : Outcome) → pop_outcome ts s ≡ Some o → OfOutcome o
  of_pop [] s o e = cc
  of_pop (t ∷ ts) s o e = along _ o e (of_stack ts _ (of_text nat_eq t s))

  of_builtin : (classes : Classes) (m : Mode) (b : Builtin) (s : State) (o : Outcome) → builtin_outcome classes m b s ≡ Some o → OfOutcome o
  of_builtin classes m (One set) s o e = along _ o e (of_one set s)
  of_builtin classes m (Property n) s o e = along _ o e (of_one (classes n) s)
  of_builtin classes m Newline s o e = along _ o e (of_newline s (begins nat_eq (10 ∷ []) s.rest) (begins nat_eq (13 ∷ 10 ∷ []) s.rest))
  of_builtin classes m Soi s o e = along _ o e (of_test (s.position == 0) s)
  of_builtin classes m Eoi s o e = along _ o e (of_end m s.rest s)
  of_builtin classes m Peek s o e = of_peek s.stack s o e
  of_builtin classes m Pop s o e = of_pop s.stack s o e
  of_builtin classes m Drop s o e = along _ o e (of_drop s.stack s)
  of_builtin classes m PeekAll s o e = along _ o e (of_text nat_eq (concatenated s.stack) s)
  of_builtin classes m PopAll s o e = along _ o e (of_stack [] _ (of_text nat_eq (concatenated s.stack) s))

  of_named : (classes : Classes) (m : Mode) (b : Option Builtin) (s : State) (o : Outcome) → named_outcome classes m b s ≡ Some o → OfOutcome o
  of_named classes m None s o e = cc
  of_named classes m (Some b) s o e = of_builtin classes m b s o e

  of_other : (classes : Classes) (m : Mode) (n : Text) (s : State) (o : Outcome) → other_outcome classes m n s ≡ Some o → OfOutcome o
  of_other classes Between n s o e = along Failure o e tt
  of_other classes NonAtomicMode n s o e = of_named classes NonAtomicMode (builtin_of n) s o e
  of_other classes AtomicMode n s o e = of_named classes AtomicMode (builtin_of n) s o e
  of_other classes CompoundAtomicMode n s o e = of_named classes CompoundAtomicMode (builtin_of n) s o e

  of_ahead : (s : State) (o : Outcome) → OfOutcome (ahead s o)
  of_ahead s Failure = tt
  of_ahead s (Success t us) = tt

  of_not_ahead : (s : State) (o : Outcome) → OfOutcome (not_ahead s o)
  of_not_ahead s Failure = tt
  of_not_ahead s (Success t us) = tt

  of_pushed : (s : State) (o : Outcome) → OfOutcome o → OfOutcome (pushed s o)
  of_pushed s Failure h = tt
  of_pushed s (Success t us) h = h

  of_token : (b : Bool) (r : Rule) (i j : ℕ) (us : Trees) → P (Some r) i j us → HoldEach P us → HoldEach P (if b then Tree (name_of r) i j us None' else us)
  of_token true r i j us h k = (rw (named_rule r) h, k, tt)
  of_token false r i j us h k = k

  module _ (text : List ℕ)
      (of_rule : (r : Rule) (m : Mode) (s t : State) (us : Trees) → IsStateIn (chars text) s → Does meta_grammar empty_classes (Run (body_mode (rule_at r) m) (body_of r)) s (Success t us)
      → P (Some r) s.position t.position us) where
    -- 2. a call of a rule
    of_call_at : (r : Rule) (m : Mode) (s : State) (o : Outcome) → IsStateIn (chars text) s → Does meta_grammar empty_classes (Run (body_mode (rule_at r) m) (body_of r)) s o
        → OfOutcome o → OfOutcome (with_token (rule_at r) m s o)
    of_call_at r m s Failure w d h = tt
    of_call_at r m s (Success t us) w d h = of_token (gives_token (type_of_rule r) m) r s.position t.position us (of_rule r m s t us w d) h

    of_call : (n : Text) (q : spec.Rule) (m : Mode) (s : State) (o : Outcome) → rule_of meta_grammar n ≡ Some q → IsStateIn (chars text) s → Does meta_grammar empty_classes (Run (body_mode q m) q.body) s o
        → OfOutcome o → OfOutcome (with_token q m s o)
    of_call n q m s o e w d h =
        let k = known n q e in
        let Gives : spec.Rule → Type 0 = λ q. Does meta_grammar empty_classes (Run (body_mode q m) q.body) s o → OfOutcome (with_token q m s o) in
        subst Gives (sym k.is_at) (λ d. of_call_at k.rule m s o w d h) d

    stands_after : {k : Task} {s t : State} {us : Trees} → Does meta_grammar empty_classes k s (Success t us) → IsStateIn (chars text) s → IsStateIn (chars text) t
    stands_after d w = (fits (chars text) d w).0

    -- 3. all that is matched
    holds : {k : Task} {s : State} {o : Outcome} → Does meta_grammar empty_classes k s o → IsStateIn (chars text) s → OfOutcome o
    holds (str {t = t} {s = s}) w = of_text nat_eq t s
    holds (insens {t = t} {s = s}) w = of_text eq_ignore_ascii_case t s
    holds (range {a = a} {b = b} {s = s}) w = of_one (range_set a b) s
    holds (slice {i = i} {j = j} {s = s}) w = of_slice (place (length s.stack) i) (end_place (length s.stack) j) s
    holds skip w = tt
    holds (call {m = m} {n = n} {s = s} {o = o} {r = r} e d) w = of_call n r m s o e w d (holds d w)
    holds (other {m = m} {n = n} {s = s} {o = o} e b) w = of_other empty_classes m n s o b
    holds (pos_pred {s = s} {o = o} d) w = of_ahead s o
    holds (neg_pred {s = s} {o = o} d) w = of_not_ahead s o
    holds (push {s = s} {o = o} d) w = of_pushed s o (holds d w)
    holds push_literal w = tt
    holds (tag d) w = holds d w
    holds (restore d) w = holds d w
    holds (seq {us = us} {vs = vs} {ws = ws} a k b) w =
        let x = stands_after a w in
        of_both us (joined vs ws) (holds a w) (of_both vs ws (holds k x) (holds b (stands_after k x)))
    holds (seq_first a) w = tt
    holds (seq_second a k b) w = tt
    holds (left a) w = holds a w
    holds (right a b) w = holds b w
    holds (opt a) w = holds a w
    holds (opt_none a) w = tt
    holds (rep {us = us} {vs = vs} a b) w = of_both us vs (holds a w) (holds b (stands_after a w))
    holds (rep_none a) w = tt
    holds (turn {us = us} {vs = vs} {ws = ws} k a b) w =
        let x = stands_after k w in
        of_both us (joined vs ws) (holds k w) (of_both vs ws (holds a x) (holds b (stands_after a x)))
    holds (turn_none k a) w = tt
    holds (rep_once d) w = holds d w
    holds (rep_exact d) w = holds d w
    holds (rep_min d) w = holds d w
    holds (rep_max d) w = holds d w
    holds (rep_min_max d) w = holds d w
    holds (skips d) w = holds d w
    holds atomic w = tt
    holds compound_atomic w = tt
    holds between w = tt

    starts : IsStateIn (chars text) (start_of text)
    starts = record { front = []; split = refl; size = refl }

    pub trees_hold : (us : Trees) → HasTrees text us → HoldEach P us
    trees_hold us h = holds (h empty_classes).1 starts
