-- The rules of the trees of an outcome have numbers.
use Rattle.std.proofs.Common.{◌≡◌, refl, sym, ◌∙◌, subst, ℕ, inl, inr, Bool, true, false, ◌==◌, List, [], ◌∷◌, None, Some, Option, codes, length, nat_eq, if◌then◌else◌}
use Rattle.std.specs.Prelude.{⊤}
use Rattle.std.proofs.lemmas.Slice.Eq.{bytes_eq-Decides}
use Rattle.base_language.specs.Language.Builtins.{Builtin, Drop, Eoi, Newline, One, Peek, PeekAll, Pop, PopAll, Property, Soi, builtin_of}
use Rattle.base_language.specs.Language.Expression.{Grammar, Rule, last_place, rule_of}
use Rattle.base_language.specs.Language.Matching.{begins, builtin_outcome, drop_outcome, end_outcome, end_place, end_token, named_outcome, other_outcome, peek_outcome, place, pop_outcome, slice_at, text_outcome, with_stack}
use Rattle.base_language.specs.Language.Meaning as by
use Rattle.base_language.specs.Language.Meaning.{Does, Task, ahead, gives_token, not_ahead, pushed, with_token}
use Rattle.base_language.specs.Language.State.{AtomicMode, Between, Classes, CompoundAtomicMode, Failure, Mode, NonAtomicMode, None', Outcome, State, Success, Tree, Trees, joined, moved}
use Rattle.base_language.specs.Language.Text.{Text}
use Rattle.base_language.proofs.Termination.{rule_name}
use Rattle.matcher_compiler.specs.Names.{HasNumber}
use Rattle.matcher_engine.proofs.Known.{unnamed}

module _ (g : Grammar) where
  -- the rule of each tree has a number
  abbrev pub HaveTreeNumbers : Trees → Type 0
  HaveTreeNumbers None' = ⊤
  HaveTreeNumbers (Tree r i j inner others) = HasNumber g r × HaveTreeNumbers inner × HaveTreeNumbers others

  -- so have the trees of a success
  abbrev Have : Outcome → Type 0
  Have Failure = ⊤
  Have (Success t us) = HaveTreeNumbers us

  rule_has : (n : Text) (r : Rule) → rule_of g n ≡ Some r → HasNumber g r.name
  rule_has n r h = subst (HasNumber g) (sym ((bytes_eq-Decides r.name n).0 (rule_name g n r h))) (go (last_place g n) refl)
    where
      go : (o : Option ℕ) → last_place g n ≡ o → HasNumber g n
      go (Some i) e = inl (i, e)
      go None e = let z : Some r ≡ None = sym h ∙ unnamed g n e in cc

  end_has : HasNumber g (codes "EOI")
  end_has = go (last_place g (codes "EOI")) refl
    where
      go : (o : Option ℕ) → last_place g (codes "EOI") ≡ o → HasNumber g (codes "EOI")
      go (Some i) e = inl (i, e)
      go None e = inr (e, refl)

  joined_have : (us vs : Trees) → HaveTreeNumbers us → HaveTreeNumbers vs → HaveTreeNumbers (joined us vs)
  joined_have None' vs x y = y
  joined_have (Tree r i j inner others) vs x y = (x.0, x.1, joined_have others vs x.2 y)

  if_have : (b : Bool) (t : State) → Have (if b then Success t None' else Failure)
  if_have true t = tt
  if_have false t = tt

  newline_have : (a b : Bool) (s : State) → Have (if a then Success (moved 1 s) None' else (if b then Success (moved 2 s) None' else text_outcome nat_eq (13 ∷ []) s))
  newline_have true b s = tt
  newline_have false true s = tt
  newline_have false false s = if_have _ _

  token_has : (m : Mode) (s : State) → Have (Success s (end_token m s.position))
  token_has AtomicMode s = tt
  token_has NonAtomicMode s = (end_has, tt, tt)
  token_has CompoundAtomicMode s = (end_has, tt, tt)
  token_has Between s = (end_has, tt, tt)

  end_have : (m : Mode) (v : Text) (s : State) → Have (end_outcome m v s)
  end_have m [] s = token_has m s
  end_have m (c ∷ u) s = tt

  stack_have : (ts : List Text) (b : Bool) (t : State) → Have (with_stack ts (if b then Success t None' else Failure))
  stack_have ts true t = tt
  stack_have ts false t = tt

  drop_have : (ts : List Text) (s : State) → Have (drop_outcome ts s)
  drop_have [] s = tt
  drop_have (t ∷ ts) s = tt

  along : (o p : Outcome) → Some o ≡ Some p → Have o → Have p
  along o p e f = let q : o ≡ p = cc in subst Have q f

  peek_have : (ts : List Text) (s : State) (o : Outcome) → peek_outcome ts s ≡ Some o → Have o
  peek_have [] s o e = cc
  peek_have (t ∷ ts) s o e = along _ o e (if_have _ _)

  pop_have : (ts : List Text) (s : State) (o : Outcome) → pop_outcome ts s ≡ Some o → Have o
  pop_have [] s o e = cc
  pop_have (t ∷ ts) s o e = along _ o e (stack_have ts _ _)

  builtin_have : (classes : Classes) (m : Mode) (b : Builtin) (s : State) (o : Outcome) → builtin_outcome classes m b s ≡ Some o → Have o
  builtin_have classes m (One set) s o e = along _ o e (if_have _ _)
  builtin_have classes m (Property n) s o e = along _ o e (if_have _ _)
  builtin_have classes m Newline s o e = along _ o e (newline_have (begins nat_eq (10 ∷ []) s.rest) (begins nat_eq (13 ∷ 10 ∷ []) s.rest) s)
  builtin_have classes m Soi s o e = along _ o e (if_have (s.position == 0) s)
  builtin_have classes m Eoi s o e = along _ o e (end_have m s.rest s)
  builtin_have classes m Peek s o e = peek_have s.stack s o e
  builtin_have classes m Pop s o e = pop_have s.stack s o e
  builtin_have classes m Drop s o e = along _ o e (drop_have s.stack s)
  builtin_have classes m PeekAll s o e = along _ o e (if_have _ _)
  builtin_have classes m PopAll s o e = along _ o e (stack_have [] _ _)

  named_have : (classes : Classes) (m : Mode) (b : Option Builtin) (s : State) (o : Outcome) → named_outcome classes m b s ≡ Some o → Have o
  named_have classes m None s o e = cc
  named_have classes m (Some b) s o e = builtin_have classes m b s o e

  other_have : (classes : Classes) (m : Mode) (n : Text) (s : State) (o : Outcome) → other_outcome classes m n s ≡ Some o → Have o
  other_have classes Between n s o e = along Failure o e tt
  other_have classes NonAtomicMode n s o e = named_have classes NonAtomicMode (builtin_of n) s o e
  other_have classes AtomicMode n s o e = named_have classes AtomicMode (builtin_of n) s o e
  other_have classes CompoundAtomicMode n s o e = named_have classes CompoundAtomicMode (builtin_of n) s o e

  token_have : (r : Rule) (m : Mode) (s : State) (o : Outcome) → HasNumber g r.name → Have o → Have (with_token r m s o)
  token_have r m s Failure x y = tt
  token_have r m s (Success t us) x y = go (gives_token r.type_of m)
    where
      go : (b : Bool) → HaveTreeNumbers (if b then Tree r.name s.position t.position us None' else us)
      go true = (x, y, tt)
      go false = y

  ahead_have : (s : State) (o : Outcome) → Have (ahead s o)
  ahead_have s Failure = tt
  ahead_have s (Success t us) = tt

  not_ahead_have : (s : State) (o : Outcome) → Have (not_ahead s o)
  not_ahead_have s Failure = tt
  not_ahead_have s (Success t us) = tt

  pushed_have : (s : State) (o : Outcome) → Have o → Have (pushed s o)
  pushed_have s Failure x = tt
  pushed_have s (Success t us) x = x

  slice_have : (a b : Option ℕ) (s : State) → Have (slice_at a b s)
  slice_have (Some i) (Some j) s = if_have _ _
  slice_have (Some i) None s = tt
  slice_have None b s = tt

  have : {classes : Classes} {k : Task} {s : State} {o : Outcome} → Does g classes k s o → Have o
  have by.str = if_have _ _
  have by.insens = if_have _ _
  have by.range = if_have _ _
  have (by.slice {i = i} {j = j} {s = s}) = slice_have (place (length s.stack) i) (end_place (length s.stack) j) s
  have by.skip = tt
  have (by.call {m = m} {n = n} {s = s} {o = o} {r = r} h d) = token_have r m s o (rule_has n r h) (have d)
  have {classes = classes} (by.other {m = m} {n = n} {s = s} {o = o} h b) = other_have classes m n s o b
  have (by.pos_pred {s = s} {o = o} d) = ahead_have s o
  have (by.neg_pred {s = s} {o = o} d) = not_ahead_have s o
  have (by.push {s = s} {o = o} d) = pushed_have s o (have d)
  have by.push_literal = tt
  have (by.tag d) = have d
  have (by.restore d) = have d
  have (by.seq a k b) = joined_have _ _ (have a) (joined_have _ _ (have k) (have b))
  have (by.seq_first a) = tt
  have (by.seq_second a k b) = tt
  have (by.left a) = have a
  have (by.right a b) = have b
  have (by.opt a) = have a
  have (by.opt_none a) = tt
  have (by.rep a b) = joined_have _ _ (have a) (have b)
  have (by.rep_none a) = tt
  have (by.turn k a b) = joined_have _ _ (have k) (joined_have _ _ (have a) (have b))
  have (by.turn_none k a) = tt
  have (by.rep_once d) = have d
  have (by.rep_exact d) = have d
  have (by.rep_min d) = have d
  have (by.rep_max d) = have d
  have (by.rep_min_max d) = have d
  have (by.skips d) = have d
  have by.atomic = tt
  have by.compound_atomic = tt
  have by.between = tt

  -- the rules of the trees of a success have numbers
  pub trees_have : {classes : Classes} {k : Task} {s t : State} {us : Trees} → Does g classes k s (Success t us) → HaveTreeNumbers us
  trees_have d = have d
