-- The facts on small grammars and single parts of the meaning.
use Rattle.std.proofs.Common.{[], ◌≡◌, Some, None, refl, sym, subst, codes}
use Rattle.base_language.specs.Language.State.{Classes, Mode, NonAtomicMode, AtomicMode, CompoundAtomicMode, Between, IsRuleMode, State, Outcome}
use Rattle.base_language.specs.Language.Expression.{Str, Ident, Seq, Opt, Rep, Rule, whitespace, comment, rule_of}
use Rattle.base_language.specs.Language.Text.{Text}
use Rattle.base_language.specs.Language.Meaning.{slice, push, skip, range, Does, Task, Run, Skipping, str, call, other, seq, seq_first, seq_second, opt_none, rep_none, turn_none, skips, compound_atomic, between, skipped, body_mode, rep, rep_once, Matches, atomic, insens, pos_pred, neg_pred, left, right, turn, rep_min_max}
use Rattle.test_calling.specs.SmallGrammars.{Alternatives, CommentsAreSkipped, EmptiesTheStack, LoudBlanks, NegativePredicates, ReadsTheTop, SlicesPastTheLength, TokensOfTheEnd, UndefinedNames, endless, at_start, ListingDiffers, BlankIsTaken, HasNone, BlankGivesToken, LastRuleIsMeant, NegativeSlices, Newlines, NonAtomicInside, OrdersOfTheStack, OtherReadings, PredicateRestores, PushPushes, RangesThatFail, ReadsEmptyStack, Skips, TokensOfAtomicRules}
use Rattle.base_language.proofs.OneOutcome.{same, same_state, from}
use Rattle.base_language.specs.Language.Builtins.{builtins, property_names, general_categories, binary_properties, scripts}
use Rattle.base_language.specs.Language.Matching.{other_outcome}
use Rattle.base_language.proofs.Basics.{same_some}

pub differs : ListingDiffers
differs classes m = (
  call refl (seq_second (rep (seq str compound_atomic str) (turn_none compound_atomic (seq_first str))) compound_atomic str),
  call refl (seq str compound_atomic (rep_none (seq_second str compound_atomic str))),
)

pub taken : BlankIsTaken
unfolding whitespace comment
taken classes =
    call refl (rep_once (seq str
    (skips (seq (rep (call refl str) (turn_none between (call refl str))) between (rep_none (seq_first (other refl refl)))))
    (rep_none str)))

module _ (classes : Classes) where
  -- the tasks that a derivation for `b` on `y` would hold
  data Endless : Task → Type 0 where
    of_rule : {m : Mode} → Endless (Run m (Ident (codes "b")))
    of_body : Endless (Run NonAtomicMode (Seq (Opt (Str (codes "x"))) (Str (codes "y"))))
    of_skipping : Endless (Skipping NonAtomicMode)
    of_skipped : Endless (Run Between skipped)
    of_blanks : Endless (Run Between (Rep (Ident whitespace)))
    of_blank : Endless (Run Between (Ident whitespace))

  body_of : {m : Mode} {n : Text} {r : Rule} → Endless (Run m (Ident n)) → rule_of endless n ≡ Some r → Endless (Run (body_mode r m) r.body)
  unfolding whitespace comment
  body_of {m} of_rule h = subst (λ r. Endless (Run (body_mode r m) r.body)) (same_some h) of_body
  body_of {m} of_blank h = subst (λ r. Endless (Run (body_mode r m) r.body)) (same_some h) of_rule

  has_rule : {m : Mode} {n : Text} → Endless (Run m (Ident n)) → rule_of endless n ≡ None → ⊥
  unfolding whitespace comment
  has_rule of_rule h = cc
  has_rule of_blank h = cc

  never : {k : Task} {s : State} {o : Outcome} → Does endless classes k s o → s ≡ at_start (codes "y") → Endless k → ⊥
  never (call h d) e k = never d e (body_of k h)
  never (other h c) e k = has_rule k h
  never (seq a k b) e of_body = never k (sym (same_state (same endless classes (opt_none str) (from endless classes (sym e) a)))) of_skipping
  never (seq_first a) e of_body = let h = same endless classes (opt_none str) (from endless classes (sym e) a) in cc
  never (seq_second a k b) e of_body = never k (sym (same_state (same endless classes (opt_none str) (from endless classes (sym e) a)))) of_skipping
  never (seq a k b) e of_skipped = never a e of_blanks
  never (seq_first a) e of_skipped = never a e of_blanks
  never (seq_second a k b) e of_skipped = never a e of_blanks
  never (rep d f) e of_blanks = never d e of_blank
  never (rep_none d) e of_blanks = never d e of_blank
  never (skips d) e of_skipping = never d e of_skipped
  never d e k = elim k [ ]

pub none_at_all : HasNone
none_at_all classes m o d = never classes d refl of_rule

-- the facts on single parts of the meaning
module _ (classes : Classes) where
  no_outcome : {m : Mode} {n : Text} {s : State} {o : Outcome} → other_outcome classes m n s ≡ None → Matches [] classes (Ident n) m s o → ⊥
  no_outcome h (call e d) = cc
  no_outcome h (other e d) = cc

  pub reads_empty_stack : ReadsEmptyStack classes
  unfolding builtins
  reads_empty_stack = record {
    peek = λ o d. no_outcome refl d;
    pop = λ o d. no_outcome refl d;
    peek_between = other refl refl;
    pop_between = other refl refl;
    drop = other refl refl;
    peek_all = other refl refl;
    pop_all = other refl refl;
  }

  pub orders_of_the_stack : OrdersOfTheStack classes
  unfolding builtins
  orders_of_the_stack = record { peek_all = other refl refl; peek_all_fails = other refl refl; slice = slice; slice_fails = slice }

  pub negative_slices : NegativeSlices classes
  negative_slices = record { top = slice; below = slice; reversed = slice }

  pub tokens_of_atomic_rules : TokensOfAtomicRules classes
  unfolding whitespace comment
  tokens_of_atomic_rules = record { in_compound = call refl (call refl str); in_atomic = call refl (call refl str) }

  pub predicate_restores : PredicateRestores classes
  predicate_restores = pos_pred (push str)

  pub push_pushes : PushPushes classes
  push_pushes = push str

  pub skips_to : Skips classes
  skips_to = record { empty = skip; none = skip; at_end = skip; found = skip }

  pub newlines : Newlines classes
  unfolding builtins
  newlines = record { both = other refl refl; alone = other refl refl }

  pub ranges_that_fail : RangesThatFail classes
  ranges_that_fail = record { empty_bound = range; reversed = range }

  pub blank_gives_token : BlankGivesToken classes
  unfolding whitespace comment builtins property_names
  blank_gives_token = call refl (seq str (skips (seq (rep (call refl str) (turn_none between (call refl str))) between (rep_none (seq_first (other refl refl))))) str)

  pub non_atomic_inside : NonAtomicInside classes
  unfolding whitespace comment builtins property_names
  non_atomic_inside = call refl (call refl (seq str (skips (seq (rep (call refl str) (turn_none between (call refl str))) between (rep_none (seq_first (other refl refl))))) str))

  pub last_rule_is_meant : LastRuleIsMeant classes
  unfolding whitespace comment
  last_rule_is_meant = call refl str

  pub other_readings : OtherReadings classes
  other_readings = record {
    counts_reversed = rep_min_max (seq str atomic str);
    one_is_missing = rep_min_max (seq_second str atomic str);
    insensitive = insens;
  }

  pub reads_the_top : ReadsTheTop classes
  unfolding builtins
  reads_the_top = record { peek = other refl refl; peek_fails = other refl refl; pop = other refl refl; pop_fails = other refl refl; drop = other refl refl }

  pub empties_the_stack : EmptiesTheStack classes
  unfolding builtins
  empties_the_stack = record { pop_all = other refl refl; pop_all_fails = other refl refl }

  pub negative_predicates : NegativePredicates classes
  negative_predicates = record { holds = neg_pred str; fails = neg_pred str }

  pub alternatives : Alternatives classes
  alternatives = record { second = right (seq_second str atomic str) str; first = left str; neither = right str str }

  pub comments_are_skipped : CommentsAreSkipped classes
  unfolding whitespace comment
  comments_are_skipped =
      call refl (seq str
      (skips (seq (rep (call refl str) (turn_none between (call refl str))) between
      (rep (seq (call refl str) between (rep (call refl str) (turn_none between (call refl str))))
      (turn between (seq (call refl str) between (rep (call refl str) (turn_none between (call refl str))))
      (turn_none between (seq_first (call refl str)))))))
      str)

  undefined : (m : Mode) (s : State) → IsRuleMode m → other_outcome classes m (codes "a") s ≡ None
  unfolding builtins property_names general_categories binary_properties scripts
  undefined NonAtomicMode s h = refl
  undefined AtomicMode s h = refl
  undefined CompoundAtomicMode s h = refl
  undefined Between s h = absurd h

  pub undefined_names : UndefinedNames classes
  undefined_names = record { none = λ m s o h d. no_outcome (undefined m s h) d; between_fails = λ s. other refl refl }

  pub blanks_of_loud : LoudBlanks classes
  unfolding whitespace comment
  blanks_of_loud = record {
    runs_atomic = call refl (seq str (skips (seq (rep (call refl (seq str atomic str)) (turn_none between (call refl (seq_first str)))) between (rep_none (seq_first (other refl refl))))) str);
    skips_nothing = call refl (seq_second str atomic str);
    token_in_atomic = call refl (call refl (seq str atomic str));
  }

  pub slices_past_the_length : SlicesPastTheLength classes
  slices_past_the_length = record { start_past = slice; end_past = slice; end_below = slice; at_length = slice }

  pub tokens_of_the_end : TokensOfTheEnd classes
  unfolding builtins
  tokens_of_the_end = record { in_non_atomic = other refl refl; in_compound_atomic = other refl refl; in_atomic = other refl refl; before_the_end = other refl refl }
