-- What is matched yields its trees.
use Rattle.std.proofs.Common.{◌≡◌, refl, ◌∙◌, ap, ℕ, List, [], ◌∷◌, inl, inr, Bool, true, false, not, ◌||◌, Option, Some, None, if◌then◌else◌, nat_eq, ◌==◌, codes, chars}
use Rattle.std.specs.Str.{IsUtf8}
use Rattle.std.specs.Str.Parse.{IsNumeral}
use Rattle.base_language.specs.Language.Expression as spec
use Rattle.base_language.specs.Language.Text.{Text}
use Rattle.base_language.specs.Language.Expression.{Ident, Choice, RuleType, Normal, Silent, Atomic, CompoundAtomic, NonAtomic, rule_of, whitespace, comment}
use Rattle.base_language.specs.Language.State.{Classes, State, Mode, NonAtomicMode, AtomicMode, CompoundAtomicMode, Between, Trees, None', Tree, joined, Outcome, Success, Failure}
use Rattle.base_language.specs.Language.Matching.{begins, starts_in, range_set, end_outcome, other_outcome}
use Rattle.base_language.specs.Language.Meaning.{Does, Task, Run, Turns, Skipping, str, insens, range, slice, skip, call, other, pos_pred, neg_pred, push, restore, seq, seq_first, seq_second, left, right, opt, opt_none, rep, rep_none, turn, turn_none, rep_once, rep_exact, rep_min, rep_max, rep_min_max, skips, atomic, compound_atomic, between, ahead, not_ahead, pushed, with_token, gives_token, seen_from, mode_in, body_mode, skipped, push_literal, tag}
use Rattle.base_language.specs.Pieces.MetaRules.{name_of}
use Rattle.base_language.specs.Language.Places.{IsStateIn}
use Rattle.base_language.specs.declared.grammar.Rule.{Rule}
use Rattle.base_language.specs.declared.grammar.Rule.TheVariants as is
use Rattle.base_language.proofs.TreesAreNested.{fits}
use Rattle.front_grammar.specs.MetaGrammar.{meta_grammar, rule_at, type_of_rule, body_of}
use Rattle.front_grammar.specs.Rules.{is_defined}
use Rattle.front_grammar.specs.Rules.{is_blank}
use Rattle.front_grammar.proofs.Lookup.{defined_rule, soi_builtin, eoi_builtin, blank_name, undefined}
use Rattle.front_grammar.proofs.MetaWellFormed.{known, implied}
use Rattle.front_grammar.proofs.Naming.{rule_named, named_rule, name_of_named}
use Rattle.front_grammar.proofs.Numerals.{number_taken, integer_taken, is_number, is_integer}
use Rattle.front_grammar.proofs.Quiet.{is_loud, is_quiet, quiet_rule, quiet}
use Rattle.front_grammar.proofs.ShapeOfTrees.{shows, closed}
use Rattle.front_grammar.proofs.Taken.{takes}
use Rattle.front_grammar.proofs.Yields.{IsNone, none, Both, both, Many, no_more, also, IsLone, lone, is_dark, Holds, Named, Yields, Inside, Stretches}

-- the trees of a success are P
abbrev pub IfSuccess : (Trees → Type 0) → Outcome → Type 0
IfSuccess P Failure = Unit {0}
IfSuccess P (Success t us) = P us

abbrev IsSeen : Task → Type 0
IsSeen (Run m e) = seen_from m ≡ true
IsSeen (Turns m e) = seen_from m ≡ true
IsSeen (Skipping m) = seen_from m ≡ true

gives_along : (P Q : Trees → Type 0) → ((us : Trees) → P us → Q us) → (o : Outcome) → IfSuccess P o → IfSuccess Q o
gives_along P Q f Failure h = tt
gives_along P Q f (Success t us) h = f us h

anything : (o : Outcome) → IfSuccess (λ _. Unit {0}) o
anything Failure = tt
anything (Success t us) = tt

none_if : (b : Bool) (t : State) → IfSuccess IsNone (if b then Success t None' else Failure)
none_if true t = none
none_if false t = tt

none_not_ahead : (s : State) (o : Outcome) → IfSuccess IsNone (not_ahead s o)
none_not_ahead s Failure = none
none_not_ahead s (Success t us) = tt

along : (P : Trees → Type 0) (o p : Outcome) → Some o ≡ Some p → IfSuccess P o → IfSuccess P p
along P o p e x = let q : o ≡ p = cc in rw (← q) x

is_none : {us : Trees} → us ≡ None' → IsNone us
is_none e = rw e none

-- whether a rule gives a token, where tokens are seen
shows_token : (ty : RuleType) (m : Mode) → seen_from m ≡ true → gives_token ty m ≡ shows ty
shows_token Normal m h = h
shows_token Silent m h = refl
shows_token Atomic m h = h
shows_token CompoundAtomic m h = refl
shows_token NonAtomic m h = refl

-- the body of a dark rule runs in Atomic and is quiet; that of another still has its tokens seen
mode_of_body : (r : Rule) (m : Mode) → body_mode (rule_at r) m ≡ mode_in (type_of_rule r) (is_blank r) m
mode_of_body r m = ap (λ b. mode_in (type_of_rule r) b m) (blank_name r)

abbrev is_atomic_mode : Mode → Bool
is_atomic_mode AtomicMode = true
is_atomic_mode _ = false

dark_test : (r : Rule) (m : Mode) → (not (is_dark r) || is_atomic_mode (mode_in (type_of_rule r) (is_blank r) m)) ≡ true
dark_test is.EOI m = refl
dark_test _ m = refl

quiet_test : (r : Rule) → (not (is_dark r) || not (is_loud r)) ≡ true
quiet_test is.EOI = refl
quiet_test _ = refl

light_test : (m : Mode) (r : Rule) → seen_from m ≡ true → (is_dark r || seen_from (mode_in (type_of_rule r) (is_blank r) m)) ≡ true
light_test AtomicMode r h = cc
light_test NonAtomicMode is.EOI h = refl
light_test NonAtomicMode _ h = refl
light_test CompoundAtomicMode is.EOI h = refl
light_test CompoundAtomicMode _ h = refl
light_test Between is.EOI h = refl
light_test Between _ h = refl

else_true : (a b : Bool) → (a || b) ≡ true → a ≡ false → b ≡ true
else_true true b h k = cc
else_true false b h k = h

atomic_mode : (m : Mode) → is_atomic_mode m ≡ true → m ≡ AtomicMode
atomic_mode NonAtomicMode h = cc
atomic_mode AtomicMode h = refl
atomic_mode CompoundAtomicMode h = cc
atomic_mode Between h = cc

dark_mode : (r : Rule) (m : Mode) → is_dark r ≡ true → body_mode (rule_at r) m ≡ AtomicMode
dark_mode r m h = mode_of_body r m ∙ atomic_mode _ (implied _ _ (dark_test r m) h)

dark_is_quiet : (r : Rule) → is_dark r ≡ true → is_quiet (body_of r) ≡ true
dark_is_quiet r h = (quiet_rule r (implied _ _ (quiet_test r) h)).body

light_mode : (r : Rule) (m : Mode) → is_dark r ≡ false → seen_from m ≡ true → seen_from (body_mode (rule_at r) m) ≡ true
light_mode r m h s = ap seen_from (mode_of_body r m) ∙ else_true _ _ (light_test m r s) h

end_gives : (m : Mode) (v : Text) (s : State) → seen_from m ≡ true → IfSuccess (IsLone (codes "EOI")) (end_outcome m v s)
end_gives NonAtomicMode [] s h = lone
end_gives AtomicMode [] s h = cc
end_gives CompoundAtomicMode [] s h = lone
end_gives Between [] s h = lone
end_gives m (c ∷ v) s h = tt

eoi_gives : (classes : Classes) (m : Mode) (s : State) (o : Outcome) → seen_from m ≡ true → other_outcome classes m (codes "EOI") s ≡ Some o → IfSuccess (IsLone (codes "EOI")) o
eoi_gives classes NonAtomicMode s o h e = along _ _ o (rw eoi_builtin at e) (end_gives NonAtomicMode s.rest s refl)
eoi_gives classes AtomicMode s o h e = cc
eoi_gives classes CompoundAtomicMode s o h e = along _ _ o (rw eoi_builtin at e) (end_gives CompoundAtomicMode s.rest s refl)
eoi_gives classes Between s o h e = along _ Failure o e tt

soi_gives : (classes : Classes) (m : Mode) (s : State) (o : Outcome) → seen_from m ≡ true → other_outcome classes m (codes "SOI") s ≡ Some o → IfSuccess IsNone o
soi_gives classes NonAtomicMode s o h e = along _ _ o (rw soi_builtin at e) (none_if (s.position == 0) s)
soi_gives classes AtomicMode s o h e = cc
soi_gives classes CompoundAtomicMode s o h e = along _ _ o (rw soi_builtin at e) (none_if (s.position == 0) s)
soi_gives classes Between s o h e = along _ Failure o e tt

none_before : (P : Trees → Type 0) (us vs : Trees) → IsNone us → P vs → P (joined us vs)
none_before P us vs none h = h

none_both : {us vs : Trees} → IsNone us → IsNone vs → IsNone (joined us vs)
none_both none h = h

all_none : {us : Trees} → Many IsNone us → IsNone us
all_none no_more = none
all_none (also none m) = all_none m

all_blank : {us : Trees} → Many (Both IsNone (Many IsNone)) us → IsNone us
all_blank no_more = none
all_blank (also (both none a) m) = none_both (all_none a) (all_blank m)

module _ (text : List ℕ) (utf8 : IsUtf8 text) (classes : Classes) where
  -- the body of a rule, called in a mode
  abbrev RunsBody : Rule → Mode → State → Outcome → Type 0
  RunsBody r m s o = Does meta_grammar classes (Run (body_mode (rule_at r) m) (body_of r)) s o

  stretches : (r : Rule) (m : Mode) (s t : State) (us : Trees) → RunsBody r m s (Success t us) → IsStateIn (chars text) s → Stretches text r s.position t.position
  stretches is.number m s t us d h = is_number text utf8 s t h (number_taken (IsNumeral 10) s t (takes classes (IsNumeral 10) (number_taken (IsNumeral 10)) d refl))
  stretches is.integer m s t us d h = is_integer text utf8 s t h (integer_taken s t (takes classes (IsNumeral 10) (number_taken (IsNumeral 10)) d refl))
  stretches _ m s t us d h = tt

  inside : (r : Rule) (m : Mode) (s t : State) (us : Trees) (b : Bool) → is_dark r ≡ b → seen_from m ≡ true → RunsBody r m s (Success t us)
      → (seen_from (body_mode (rule_at r) m) ≡ true → Yields text (body_of r) us) → Inside text b r us
  inside r m s t us true e h d f = is_none (quiet classes d (dark_mode r m e, dark_is_quiet r e))
  inside r m s t us false e h d f = f (light_mode r m e h)

  holds : (r : Rule) (m : Mode) (s t : State) (us : Trees) → is_defined r ≡ true → seen_from m ≡ true → IsStateIn (chars text) s → RunsBody r m s (Success t us)
      → (seen_from (body_mode (rule_at r) m) ≡ true → Yields text (body_of r) us)
      → Holds text r (if gives_token (type_of_rule r) m then Tree (name_of r) s.position t.position us None' else us)
  holds r m s t us k h w d f =
      rw (shows_token (type_of_rule r) m h) (closed text r s.position t.position us k (stretches r m s t us d w) (inside r m s t us (is_dark r) refl h d f))

  -- a call of a rule
  abbrev Calls : Text → spec.Rule → Type 0
  Calls n q = (m : Mode) (s : State) (o : Outcome) → seen_from m ≡ true → IsStateIn (chars text) s → Does meta_grammar classes (Run (body_mode q m) q.body) s o
      → (seen_from (body_mode q m) ≡ true → IfSuccess (Yields text q.body) o) → IfSuccess (Yields text (Ident n)) (with_token q m s o)

  calls_at : (r : Rule) → is_defined r ≡ true → Calls (name_of r) (rule_at r)
  calls_at r k m s Failure h w d f = tt
  calls_at r k m s (Success t us) h w d f = rw (named_rule r) (holds r m s t us k h w d f)

  calls_along : (n m : Text) (q r : spec.Rule) → q ≡ r → m ≡ n → Calls m r → Calls n q
  calls_along n m q r e f x = rw (e, ← f) x

  calls : (n : Text) (q : spec.Rule) → rule_of meta_grammar n ≡ Some q → Calls n q
  calls n q e = let k = known n q e in calls_along n _ q _ k.is_at k.named (calls_at k.rule k.defined)

  -- a name that is no rule's
  undefined_gives : (r : Rule) (b : Bool) (m : Mode) (s : State) (o : Outcome) → is_defined r ≡ b → seen_from m ≡ true
      → rule_of meta_grammar (name_of r) ≡ None → other_outcome classes m (name_of r) s ≡ Some o → IfSuccess (Holds text r) o
  undefined_gives r true m s o k h e c = let d = defined_rule r k in cc
  undefined_gives r false m s o k h e c =
      let i = undefined r k in
      rw i (eoi_gives classes m s o h (rw i at c))

  others_give : (n : Text) (x : Option Rule) (m : Mode) (s : State) (o : Outcome) → rule_named n ≡ x → seen_from m ≡ true
      → rule_of meta_grammar n ≡ None → other_outcome classes m n s ≡ Some o → IfSuccess (Named text x n) o
  others_give n (Some r) m s o i h e c = let k = name_of_named n r i in undefined_gives r (is_defined r) m s o refl h (rw k e) (rw k c)
  others_give n None m s Failure i h e c = tt
  others_give n None m s (Success t us) i h e c = λ k. soi_gives classes m s (Success t us) h (rw k at c)

  -- what a task yields
  abbrev pub Yielded : Task → Trees → Type 0
  Yielded (Run m e) us = Yields text e us
  Yielded (Turns m e) us = Many (Yields text e) us
  Yielded (Skipping m) us = IsNone us

  stands_after : {k : Task} {s t : State} {us : Trees} → Does meta_grammar classes k s (Success t us) → IsStateIn (chars text) s → IsStateIn (chars text) t
  stands_after d h = (fits (chars text) d h).0

  blanks : (us : Trees) → Yields text skipped us → IsNone us
  unfolding whitespace comment rule_named
  blanks us (both a b) = none_both (all_none a) (all_blank b)

  pub yields : {k : Task} {s : State} {o : Outcome} → Does meta_grammar classes k s o → IsSeen k → IsStateIn (chars text) s → IfSuccess (Yielded k) o
  yields (str {t = t} {s = s}) h w = none_if (begins nat_eq t s.rest) _
  yields (insens {t = t} {s = s}) h w = anything _
  yields (range {a = a} {b = b} {s = s}) h w = none_if (starts_in (range_set a b) s.rest) _
  yields slice h w = anything _
  yields skip h w = tt
  yields (call {m = m} {n = n} {s = s} {o = o} {r = r} e d) h w = calls n r e m s o h w d (λ i. yields d i w)
  yields (other {m = m} {n = n} {s = s} {o = o} e b) h w = others_give n (rule_named n) m s o refl h e b
  yields (pos_pred {s = s} {o = o} d) h w = anything (ahead s o)
  yields (neg_pred {s = s} {o = o} d) h w = none_not_ahead s o
  yields (push {s = s} {o = o} d) h w = anything (pushed s o)
  yields push_literal h w = tt
  yields (tag {o = o} d) h w = anything o
  yields (restore {o = o} d) h w = anything o
  yields (seq {b = f} {vs = vs} {ws = ws} a k b) h w =
      let x = stands_after a w in
      both (yields a h w) (none_before (Yields text f) vs ws (yields k h x) (yields b h (stands_after k x)))
  yields (seq_first a) h w = tt
  yields (seq_second a k b) h w = tt
  yields (left a) h w = inl (yields a h w)
  yields (right {a = a} {b = b} {o = o} x y) h w = gives_along (Yields text b) (Yields text (Choice a b)) (λ us i. inr i) o (yields y h w)
  yields (opt a) h w = inr (yields a h w)
  yields (opt_none a) h w = inl none
  yields (rep a b) h w = also (yields a h w) (yields b h (stands_after a w))
  yields (rep_none a) h w = no_more
  yields (turn {e = e} {us = us} {vs = vs} {ws = ws} k a b) h w =
      let x = stands_after k w in
      none_before (Many (Yields text e)) us (joined vs ws) (yields k h w) (also (yields a h x) (yields b h (stands_after a x)))
  yields (turn_none k a) h w = no_more
  yields (rep_once {o = o} d) h w = anything o
  yields (rep_exact {o = o} d) h w = anything o
  yields (rep_min {o = o} d) h w = anything o
  yields (rep_max {o = o} d) h w = anything o
  yields (rep_min_max {o = o} d) h w = anything o
  yields (skips {o = o} d) h w = gives_along (Yields text skipped) IsNone blanks o (yields d refl w)
  yields atomic h w = none
  yields compound_atomic h w = none
  yields between h w = none
