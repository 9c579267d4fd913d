-- Trees stand in order in the text, each on its characters.
use Rattle.std.proofs.Common.{◌≡◌, refl, ap, ℕ, ◌+◌, ◌≤◌, List, [], ◌∷◌, ◌++◌, length, take, Bool, true, false, Option, Some, None, if◌then◌else◌, nat_eq, ◌==◌, append_assoc, arith, codes}
use Rattle.std.proofs.lemmas.List.{take-append-drop}
use Rattle.std.proofs.lemmas.List.Sums.{sum_by-append}
use Rattle.std.specs.List.{sum_by}
use Rattle.std.specs.Char.{len_utf8}
use Rattle.base_language.specs.Language.Expression.{Grammar, Rule}
use Rattle.base_language.specs.Language.State.{Classes, State, Mode, NonAtomicMode, AtomicMode, CompoundAtomicMode, Between, Trees, None', Tree, joined, Outcome, Success, Failure, moved}
use Rattle.base_language.specs.Language.Text.{Text, IsPosition}
use Rattle.base_language.specs.Language.Matching.{begins, text_outcome, starts_in, character_outcome, range_set, distance, place, end_place, slice_at, end_token, end_outcome, with_stack, peek_outcome, pop_outcome, drop_outcome, concatenated, builtin_outcome, named_outcome, other_outcome}
use Rattle.base_language.specs.Language.Builtins.{Builtin, One, Property, Newline, Soi, Eoi, Peek, Pop, Drop, PeekAll, PopAll, builtin_of}
use Rattle.base_language.specs.Language.Meaning.{Does, Task, str, insens, range, slice, skip, call, other, pos_pred, neg_pred, push, restore, seq, seq_first, seq_second, left, right, opt, opt_none, rep, rep_none, turn, turn_none, rep_once, rep_exact, rep_min, rep_max, rep_min_max, skips, atomic, compound_atomic, between, ahead, not_ahead, pushed, with_top, with_token, gives_token, push_literal, tag}
use Rattle.base_language.specs.Language.Places.{IsStateIn, Nested, FitsIn}

module _ (text : Text) where
  nested_from : (us : Trees) (i j k : ℕ) → i ≤ j → Nested text us j k → Nested text us i k
  nested_from None' i j k h n = omega arith
  nested_from (Tree r a b inner others) i j k h n = (omega (arith, n.0), n.1, n.2, n.3, n.4)

  nested_joined : (us vs : Trees) (i j k : ℕ) → Nested text us i j → Nested text vs j k → Nested text (joined us vs) i k
  nested_joined None' vs i j k m n = nested_from vs i j k m n
  nested_joined (Tree r a b inner others) vs i j k m n = (m.0, m.1, m.2, m.3, nested_joined others vs b j k m.4 n)

  on : (s : State) → IsStateIn text s → IsPosition text s.position
  on s h = record { front = h.front; back = s.rest; split = h.split; size = h.size }

  stands_with : (s t : State) → IsStateIn text s → s.position ≡ t.position → s.rest ≡ t.rest → IsStateIn text t
  stands_with s t h e f = record { front = h.front; split = rw (← f) h.split; size = rw (← e) h.size }

  fits_after : (s t : State) (us : Trees) (u : State) (vs : Trees) → Nested text us s.position t.position → FitsIn text t (Success u vs) → FitsIn text s (Success u (joined us vs))
  fits_after s t us u vs n h = (h.0, nested_joined us vs s.position t.position u.position n h.1)

  fits_here : (s : State) → IsStateIn text s → FitsIn text s (Success s None')
  fits_here s h = (h, omega arith)

  fits_moved : (n : ℕ) (s : State) → IsStateIn text s → FitsIn text s (Success (moved n s) None')
  fits_moved n s h =
      let e = take-append-drop n s.rest in (
        record {
          front = h.front ++ take n s.rest;
          split = rw (append_assoc, e) h.split;
          size = rw sum_by-append (ap (λ k. k + sum_by len_utf8 (take n s.rest)) h.size);
        },
        omega arith,
      )

  fits_if : (b : Bool) (n : ℕ) (s : State) → IsStateIn text s → FitsIn text s (if b then Success (moved n s) None' else Failure)
  fits_if true n s h = fits_moved n s h
  fits_if false n s h = tt

  fits_text : (alike : ℕ → ℕ → Bool) (t : Text) (s : State) → IsStateIn text s → FitsIn text s (text_outcome alike t s)
  fits_text alike t s h = fits_if (begins alike t s.rest) (length t) s h

  fits_one : (set : ℕ → Bool) (s : State) → IsStateIn text s → FitsIn text s (character_outcome set s)
  fits_one set s h = fits_if (starts_in set s.rest) 1 s h

  fits_slice_at : (i j : Option ℕ) (s : State) → IsStateIn text s → FitsIn text s (slice_at i j s)
  fits_slice_at (Some i) (Some j) s h = fits_text nat_eq _ s h
  fits_slice_at (Some i) None s h = tt
  fits_slice_at None j s h = tt

  fits_token : (b : Bool) (n : Text) (s t : State) (us : Trees) → IsStateIn text s → FitsIn text s (Success t us) → FitsIn text s (Success t (if b then Tree n s.position t.position us None' else us))
  fits_token true n s t us h x = (x.0, (omega arith, on s h, on t x.0, x.1, omega arith))
  fits_token false n s t us h x = x

  fits_call : (r : Rule) (m : Mode) (s : State) (o : Outcome) → IsStateIn text s → FitsIn text s o → FitsIn text s (with_token r m s o)
  fits_call r m s Failure h x = tt
  fits_call r m s (Success t us) h x = fits_token (gives_token r.type_of m) r.name s t us h x

  fits_ahead : (s : State) (o : Outcome) → IsStateIn text s → FitsIn text s (ahead s o)
  fits_ahead s Failure h = tt
  fits_ahead s (Success t us) h = fits_here s h

  fits_not_ahead : (s : State) (o : Outcome) → IsStateIn text s → FitsIn text s (not_ahead s o)
  fits_not_ahead s Failure h = fits_here s h
  fits_not_ahead s (Success t us) h = tt

  fits_pushed : (s : State) (o : Outcome) → FitsIn text s o → FitsIn text s (pushed s o)
  fits_pushed s Failure x = tt
  fits_pushed s (Success t us) x = (stands_with t _ x.0 refl refl, x.1)

  fits_with_stack : (ts : List Text) (s : State) (o : Outcome) → FitsIn text s o → FitsIn text s (with_stack ts o)
  fits_with_stack ts s Failure x = tt
  fits_with_stack ts s (Success t us) x = (stands_with t _ x.0 refl refl, x.1)

  fits_end_token : (m : Mode) (s : State) → IsStateIn text s → FitsIn text s (Success s (end_token m s.position))
  fits_end_token AtomicMode s h = fits_here s h
  fits_end_token NonAtomicMode s h = fits_token true (codes "EOI") s s None' h (fits_here s h)
  fits_end_token CompoundAtomicMode s h = fits_token true (codes "EOI") s s None' h (fits_here s h)
  fits_end_token Between s h = fits_token true (codes "EOI") s s None' h (fits_here s h)

  fits_end : (m : Mode) (v : Text) (s : State) → IsStateIn text s → FitsIn text s (end_outcome m v s)
  fits_end m [] s h = fits_end_token m s h
  fits_end m (c ∷ u) s h = tt

  fits_newline : (s : State) (a b : Bool) → IsStateIn text s → FitsIn text s (if a then Success (moved 1 s) None' else (if b then Success (moved 2 s) None' else text_outcome nat_eq (13 ∷ []) s))
  fits_newline s true b h = fits_moved 1 s h
  fits_newline s false true h = fits_moved 2 s h
  fits_newline s false false h = fits_text nat_eq (13 ∷ []) s h

  fits_start : (b : Bool) (s : State) → IsStateIn text s → FitsIn text s (if b then Success s None' else Failure)
  fits_start true s h = fits_here s h
  fits_start false s h = tt

  fits_drop : (ts : List Text) (s : State) → IsStateIn text s → FitsIn text s (drop_outcome ts s)
  fits_drop [] s h = tt
  fits_drop (t ∷ ts) s h = (stands_with s _ h refl refl, omega arith)

  along : (s : State) (o p : Outcome) → Some o ≡ Some p → FitsIn text s o → FitsIn text s p
  along s o p e x = let q : o ≡ p = cc in rw (← q) x

  fits_peek : (ts : List Text) (s : State) (o : Outcome) → IsStateIn text s → peek_outcome ts s ≡ Some o → FitsIn text s o
  fits_peek [] s o h e = cc
  fits_peek (t ∷ ts) s o h e = along s _ o e (fits_text nat_eq t s h)

  fits_pop : (ts : List Text) (s : State) (o : Outcome) → IsStateIn text s → pop_outcome ts s ≡ Some o → FitsIn text s o
  fits_pop [] s o h e = cc
  fits_pop (t ∷ ts) s o h e = along s _ o e (fits_with_stack ts s _ (fits_text nat_eq t s h))

  fits_builtin : (classes : Classes) (m : Mode) (b : Builtin) (s : State) (o : Outcome) → IsStateIn text s → builtin_outcome classes m b s ≡ Some o → FitsIn text s o
  fits_builtin classes m (One set) s o h e = along s _ o e (fits_one set s h)
  fits_builtin classes m (Property n) s o h e = along s _ o e (fits_one (classes n) s h)
  fits_builtin classes m Newline s o h e = along s _ o e (fits_newline s (begins nat_eq (10 ∷ []) s.rest) (begins nat_eq (13 ∷ 10 ∷ []) s.rest) h)
  fits_builtin classes m Soi s o h e = along s _ o e (fits_start (s.position == 0) s h)
  fits_builtin classes m Eoi s o h e = along s _ o e (fits_end m s.rest s h)
  fits_builtin classes m Peek s o h e = fits_peek s.stack s o h e
  fits_builtin classes m Pop s o h e = fits_pop s.stack s o h e
  fits_builtin classes m Drop s o h e = along s _ o e (fits_drop s.stack s h)
  fits_builtin classes m PeekAll s o h e = along s _ o e (fits_text nat_eq (concatenated s.stack) s h)
  fits_builtin classes m PopAll s o h e = along s _ o e (fits_with_stack [] s _ (fits_text nat_eq (concatenated s.stack) s h))

  fits_named : (classes : Classes) (m : Mode) (b : Option Builtin) (s : State) (o : Outcome) → IsStateIn text s → named_outcome classes m b s ≡ Some o → FitsIn text s o
  fits_named classes m None s o h e = cc
  fits_named classes m (Some b) s o h e = fits_builtin classes m b s o h e

  fits_other : (classes : Classes) (m : Mode) (n : Text) (s : State) (o : Outcome) → IsStateIn text s → other_outcome classes m n s ≡ Some o → FitsIn text s o
  fits_other classes Between n s o h e = along s Failure o e tt
  fits_other classes NonAtomicMode n s o h e = fits_named classes NonAtomicMode (builtin_of n) s o h e
  fits_other classes AtomicMode n s o h e = fits_named classes AtomicMode (builtin_of n) s o h e
  fits_other classes CompoundAtomicMode n s o h e = fits_named classes CompoundAtomicMode (builtin_of n) s o h e

  pub fits : {g : Grammar} {classes : Classes} {k : Task} {s : State} {o : Outcome} → Does g classes k s o → IsStateIn text s → FitsIn text s o
  fits (str {t = t} {s = s}) h = fits_text nat_eq t s h
  fits (insens {t = t} {s = s}) h = fits_text _ t s h
  fits (range {a = a} {b = b} {s = s}) h = fits_one (range_set a b) s h
  fits (slice {i = i} {j = j} {s = s}) h = fits_slice_at (place (length s.stack) i) (end_place (length s.stack) j) s h
  fits (skip {ts = ts} {s = s}) h = fits_moved (distance ts s.rest) s h
  fits (call {m = m} {s = s} {o = o} {r = r} e d) h = fits_call r m s o h (fits d h)
  fits {classes = classes} (other {m = m} {n = n} {s = s} {o = o} e b) h = fits_other classes m n s o h b
  fits (pos_pred {s = s} {o = o} d) h = fits_ahead s o h
  fits (neg_pred {s = s} {o = o} d) h = fits_not_ahead s o h
  fits (push {s = s} {o = o} d) h = fits_pushed s o (fits d h)
  fits (push_literal {t = t} {s = s}) h = (stands_with s (with_top t s) h refl refl, omega arith)
  fits (tag d) h = fits d h
  fits (restore d) h = fits d h
  fits (seq {s = s} {t = t} {u = u} {v = v} {us = us} {vs = vs} {ws = ws} a k b) h =
      let x = fits a h in let y = fits k x.0 in
      fits_after s t us v (joined vs ws) x.1 (fits_after t u vs v ws y.1 (fits b y.0))
  fits (seq_first a) h = tt
  fits (seq_second a k b) h = tt
  fits (left a) h = fits a h
  fits (right a b) h = fits b h
  fits (opt a) h = fits a h
  fits (opt_none {s = s} a) h = fits_here s h
  fits (rep {s = s} {t = t} {u = u} {us = us} {vs = vs} a b) h = let x = fits a h in fits_after s t us u vs x.1 (fits b x.0)
  fits (rep_none {s = s} a) h = fits_here s h
  fits (turn {s = s} {t = t} {u = u} {v = v} {us = us} {vs = vs} {ws = ws} k a b) h =
      let x = fits k h in let y = fits a x.0 in
      fits_after s t us v (joined vs ws) x.1 (fits_after t u vs v ws y.1 (fits b y.0))
  fits (turn_none {s = s} k a) h = fits_here s h
  fits (rep_once d) h = fits d h
  fits (rep_exact d) h = fits d h
  fits (rep_min d) h = fits d h
  fits (rep_max d) h = fits d h
  fits (rep_min_max d) h = fits d h
  fits (skips d) h = fits d h
  fits (atomic {s = s}) h = fits_here s h
  fits (compound_atomic {s = s}) h = fits_here s h
  fits (between {s = s}) h = fits_here s h
