-- What gives no trees in Atomic.
use Rattle.std.proofs.Common.{◌≡◌, refl, ℕ, ◌-◌, min, List, [], ◌∷◌, Bool, true, false, not, ◌&&◌, ◌||◌, Option, Some, None, if◌then◌else◌, nat_eq, ◌==◌}
use Rattle.std.proofs.lemmas.Bool.{and_from}
use Rattle.base_language.specs.Language.Expression as spec
use Rattle.base_language.specs.Language.Text.{Text}
use Rattle.base_language.specs.Language.Expression.{Expression, Str, Range, Ident, PosPred, NegPred, Seq, Choice, Opt, Rep, RepOnce, RepMinMax, RuleType, Normal, Silent, Atomic, CompoundAtomic, NonAtomic, rule_of}
use Rattle.base_language.specs.Language.State.{Classes, State, Mode, NonAtomicMode, AtomicMode, CompoundAtomicMode, Between, Trees, None', joined, Outcome, Success, Failure, moved}
use Rattle.base_language.specs.Language.Matching.{begins, text_outcome, starts_in, character_outcome, range_set, end_outcome, with_stack, peek_outcome, pop_outcome, drop_outcome, concatenated, builtin_outcome, named_outcome, other_outcome}
use Rattle.base_language.specs.Language.Builtins.{Builtin, One, Property, Newline, Soi, Eoi, Peek, Pop, Drop, PeekAll, PopAll, builtin_of}
use Rattle.base_language.specs.Language.Meaning.{Does, Task, Run, Turns, Skipping, str, insens, range, slice, skip, call, other, pos_pred, neg_pred, push, restore, seq, seq_first, seq_second, left, right, opt, opt_none, rep, rep_none, turn, turn_none, rep_once, rep_exact, rep_min, rep_max, rep_min_max, skips, atomic, compound_atomic, between, ahead, not_ahead, with_token, gives_token, inherited, mode_in, body_mode, from_to, push_literal, tag}
use Rattle.base_language.specs.Pieces.MetaRules.{name_of}
use Rattle.base_language.specs.declared.grammar.Rule.{Rule}
use Rattle.base_language.specs.declared.grammar.Rule.TheVariants as is
use Rattle.base_language.proofs.Moving.{each_copy, each_of_both, in_all}
use Rattle.base_language.proofs.Basics.{first_of_both, second_of_both}
use Rattle.front_grammar.specs.MetaGrammar.{meta_grammar, rule_at, type_of_rule, body_of}
use Rattle.front_grammar.proofs.MetaWellFormed.{known}
use Rattle.front_grammar.proofs.Naming.{rule_named, named_rule}

-- the rules that hold a rule that gives a token in Atomic too, or are one
abbrev pub is_loud : Rule → Bool
is_loud is.grammar_rules = true
is_loud is.grammar_rule = true
is_loud is.expression = true
is_loud is.term = true
is_loud is.node = true
is_loud is.terminal = true
is_loud is._push = true
is_loud is._push_literal = true
is_loud is.string = true
is_loud is.insensitive_string = true
is_loud is.range = true
is_loud is.character = true
is_loud is.grammar_doc = true
is_loud is.line_doc = true
is_loud _ = false

abbrev quiet_at : Option Rule → Bool
quiet_at None = true
quiet_at (Some r) = not (is_loud r)

-- an expression that calls no loud rule
abbrev pub is_quiet : Expression → Bool
is_quiet (Str t) = true
is_quiet (Range a b) = true
is_quiet (Ident n) = quiet_at (rule_named n)
is_quiet (PosPred e) = true
is_quiet (NegPred e) = true
is_quiet (Seq a b) = is_quiet a && is_quiet b
is_quiet (Choice a b) = is_quiet a && is_quiet b
is_quiet (Opt e) = is_quiet e
is_quiet (Rep e) = is_quiet e
is_quiet (RepOnce e) = is_quiet e
is_quiet (RepMinMax e i j) = is_quiet e
is_quiet _ = false

-- a type whose rules give no token in Atomic, and whose bodies stay there
abbrev pub stays_atomic : RuleType → Bool
stays_atomic CompoundAtomic = false
stays_atomic NonAtomic = false
stays_atomic _ = true

rules_are_quiet : (r : Rule) → (is_loud r || (is_quiet (body_of r) && stays_atomic (type_of_rule r))) ≡ true
unfolding rule_named
rules_are_quiet is.EOI = refl
rules_are_quiet _ = refl

pub first_or : (a b : Bool) → (a || b) ≡ true → not a ≡ true → b ≡ true
first_or true b h k = cc
first_or false b h k = h

pub record IsQuietRule (r : spec.Rule) : Type 0 where
  pub body : is_quiet r.body ≡ true
  pub stays : stays_atomic r.type_of ≡ true

pub quiet_rule : (r : Rule) → not (is_loud r) ≡ true → IsQuietRule (rule_at r)
quiet_rule r h =
    let k = first_or _ _ (rules_are_quiet r) h in
    record { body = first_of_both _ _ k; stays = second_of_both _ _ k }

not_loud : (n : Text) (r : Rule) → name_of r ≡ n → is_quiet (Ident n) ≡ true → not (is_loud r) ≡ true
not_loud n r e h = let k : rule_named n ≡ Some r = rw (← e) (named_rule r) in rw k at h

quiet_called : (n : Text) (q : spec.Rule) → rule_of meta_grammar n ≡ Some q → is_quiet (Ident n) ≡ true → IsQuietRule q
quiet_called n q e h = let k = known n q e in rw k.is_at (quiet_rule k.rule (not_loud n k.rule k.named h))

-- copies of what is quiet are
quiet_copies : (e : Expression) (i j : ℕ) → is_quiet e ≡ true → is_quiet (from_to e i j) ≡ true
quiet_copies e i j h =
    let C : Expression → Type 0 = λ x. is_quiet x ≡ true in
    in_all C refl (λ a b x y. and_from _ _ x y)
    (each_of_both C (each_copy C {e = e} (min i j) h) (each_copy C {e = Opt e} (j - i) h))

abbrev pub IsQuiet : Task → Type 0
IsQuiet (Run m e) = (m ≡ AtomicMode) × (is_quiet e ≡ true)
IsQuiet (Turns m e) = (m ≡ AtomicMode) × (is_quiet e ≡ true)
IsQuiet (Skipping m) = m ≡ AtomicMode

abbrev pub NoTrees : Outcome → Type 0
NoTrees Failure = Unit {0}
NoTrees (Success t us) = us ≡ None'

no_trees_if : (b : Bool) (t : State) → NoTrees (if b then Success t None' else Failure)
no_trees_if true t = refl
no_trees_if false t = tt

no_trees_text : (t : Text) (s : State) → NoTrees (text_outcome nat_eq t s)
no_trees_text t s = no_trees_if (begins nat_eq t s.rest) _

no_trees_one : (set : ℕ → Bool) (s : State) → NoTrees (character_outcome set s)
no_trees_one set s = no_trees_if (starts_in set s.rest) _

no_trees_ahead : (s : State) (o : Outcome) → NoTrees (ahead s o)
no_trees_ahead s Failure = tt
no_trees_ahead s (Success t us) = refl

no_trees_not_ahead : (s : State) (o : Outcome) → NoTrees (not_ahead s o)
no_trees_not_ahead s Failure = refl
no_trees_not_ahead s (Success t us) = tt

no_trees_stack : (ts : List Text) (o : Outcome) → NoTrees o → NoTrees (with_stack ts o)
no_trees_stack ts Failure h = tt
no_trees_stack ts (Success t us) h = h

no_trees_newline : (s : State) (a b : Bool) → NoTrees (if a then Success (moved 1 s) None' else (if b then Success (moved 2 s) None' else text_outcome nat_eq (13 ∷ []) s))
no_trees_newline s true b = refl
no_trees_newline s false true = refl
no_trees_newline s false false = no_trees_text (13 ∷ []) s

no_trees_end : (v : Text) (s : State) → NoTrees (end_outcome AtomicMode v s)
no_trees_end [] s = refl
no_trees_end (c ∷ v) s = tt

no_trees_drop : (ts : List Text) (s : State) → NoTrees (drop_outcome ts s)
no_trees_drop [] s = tt
no_trees_drop (t ∷ ts) s = refl

along : (o p : Outcome) → Some o ≡ Some p → NoTrees o → NoTrees p
along o p e x = let q : o ≡ p = cc in rw (← q) x

no_trees_peek : (ts : List Text) (s : State) (o : Outcome) → peek_outcome ts s ≡ Some o → NoTrees o
no_trees_peek [] s o e = cc
no_trees_peek (t ∷ ts) s o e = along _ o e (no_trees_text t s)

no_trees_pop : (ts : List Text) (s : State) (o : Outcome) → pop_outcome ts s ≡ Some o → NoTrees o
no_trees_pop [] s o e = cc
no_trees_pop (t ∷ ts) s o e = along _ o e (no_trees_stack ts _ (no_trees_text t s))

no_trees_builtin : (classes : Classes) (b : Builtin) (s : State) (o : Outcome) → builtin_outcome classes AtomicMode b s ≡ Some o → NoTrees o
no_trees_builtin classes (One set) s o e = along _ o e (no_trees_one set s)
no_trees_builtin classes (Property n) s o e = along _ o e (no_trees_one (classes n) s)
no_trees_builtin classes Newline s o e = along _ o e (no_trees_newline s (begins nat_eq (10 ∷ []) s.rest) (begins nat_eq (13 ∷ 10 ∷ []) s.rest))
no_trees_builtin classes Soi s o e = along _ o e (no_trees_if (s.position == 0) s)
no_trees_builtin classes Eoi s o e = along _ o e (no_trees_end s.rest s)
no_trees_builtin classes Peek s o e = no_trees_peek s.stack s o e
no_trees_builtin classes Pop s o e = no_trees_pop s.stack s o e
no_trees_builtin classes Drop s o e = along _ o e (no_trees_drop s.stack s)
no_trees_builtin classes PeekAll s o e = along _ o e (no_trees_text (concatenated s.stack) s)
no_trees_builtin classes PopAll s o e = along _ o e (no_trees_stack [] _ (no_trees_text (concatenated s.stack) s))

no_trees_named : (classes : Classes) (b : Option Builtin) (s : State) (o : Outcome) → named_outcome classes AtomicMode b s ≡ Some o → NoTrees o
no_trees_named classes None s o e = cc
no_trees_named classes (Some b) s o e = no_trees_builtin classes b s o e

no_trees_other : (classes : Classes) (m : Mode) (n : Text) (s : State) (o : Outcome) → m ≡ AtomicMode → other_outcome classes m n s ≡ Some o → NoTrees o
no_trees_other classes NonAtomicMode n s o h e = cc
no_trees_other classes AtomicMode n s o h e = no_trees_named classes (builtin_of n) s o e
no_trees_other classes CompoundAtomicMode n s o h e = cc
no_trees_other classes Between n s o h e = cc

-- in Atomic, the body of such a rule is too, and there is no token
inherited_atomic : (b : Bool) → inherited b AtomicMode ≡ AtomicMode
inherited_atomic true = refl
inherited_atomic false = refl

mode_stays : (ty : RuleType) (b : Bool) → stays_atomic ty ≡ true → mode_in ty b AtomicMode ≡ AtomicMode
mode_stays Normal b h = inherited_atomic b
mode_stays Silent b h = inherited_atomic b
mode_stays Atomic b h = refl
mode_stays CompoundAtomic b h = cc
mode_stays NonAtomic b h = cc

pub body_stays : (r : spec.Rule) (m : Mode) → m ≡ AtomicMode → stays_atomic r.type_of ≡ true → body_mode r m ≡ AtomicMode
body_stays r m h k = rw h (mode_stays r.type_of _ k)

no_token : (ty : RuleType) → stays_atomic ty ≡ true → gives_token ty AtomicMode ≡ false
no_token Normal h = refl
no_token Silent h = refl
no_token Atomic h = refl
no_token CompoundAtomic h = cc
no_token NonAtomic h = cc

no_trees_call : (r : spec.Rule) (m : Mode) (s : State) (o : Outcome) → m ≡ AtomicMode → stays_atomic r.type_of ≡ true → NoTrees o → NoTrees (with_token r m s o)
no_trees_call r m s Failure e h k = tt
no_trees_call r m s (Success t us) e h k = rw (e, no_token r.type_of h) k

none_joined : {us vs ws : Trees} → us ≡ None' → vs ≡ None' → ws ≡ None' → joined us (joined vs ws) ≡ None'
none_joined h i j = rw (h, i, j) refl

module _ (classes : Classes) where
  pub quiet : {k : Task} {s : State} {o : Outcome} → Does meta_grammar classes k s o → IsQuiet k → NoTrees o
  quiet (str {t = t} {s = s}) h = no_trees_text t s
  quiet insens h = cc
  quiet (range {a = a} {b = b} {s = s}) h = no_trees_one (range_set a b) s
  quiet slice h = cc
  quiet skip h = cc
  quiet (call {m = m} {n = n} {s = s} {o = o} {r = r} e d) h =
      let q = quiet_called n r e h.1 in
      no_trees_call r m s o h.0 q.stays (quiet d (body_stays r m h.0 q.stays, q.body))
  quiet (other {m = m} {n = n} {s = s} {o = o} e b) h = no_trees_other classes m n s o h.0 b
  quiet (pos_pred {s = s} {o = o} d) h = no_trees_ahead s o
  quiet (neg_pred {s = s} {o = o} d) h = no_trees_not_ahead s o
  quiet (push d) h = cc
  quiet push_literal h = cc
  quiet (tag d) h = cc
  quiet (restore d) h = cc
  quiet (seq a k b) h = none_joined (quiet a (h.0, first_of_both _ _ h.1)) (quiet k h.0) (quiet b (h.0, second_of_both _ _ h.1))
  quiet (seq_first a) h = tt
  quiet (seq_second a k b) h = tt
  quiet (left a) h = quiet a (h.0, first_of_both _ _ h.1)
  quiet (right a b) h = quiet b (h.0, second_of_both _ _ h.1)
  quiet (opt a) h = quiet a h
  quiet (opt_none a) h = refl
  quiet (rep a b) h = none_joined (quiet a h) refl (quiet b h)
  quiet (rep_none a) h = refl
  quiet (turn k a b) h = none_joined (quiet k h.0) (quiet a h) (quiet b h)
  quiet (turn_none k a) h = refl
  quiet (rep_once d) h = quiet d (h.0, and_from _ _ h.1 h.1)
  quiet (rep_exact d) h = cc
  quiet (rep_min d) h = cc
  quiet (rep_max d) h = cc
  quiet (rep_min_max {e = e} {i = i} {j = j} d) h = quiet d (h.0, quiet_copies e i j h.1)
  quiet (skips d) h = cc
  quiet atomic h = refl
  quiet compound_atomic h = cc
  quiet between h = cc
