-- The pass that makes forward searches.
use Rattle.std.proofs.Common.{◌≡◌, ◌≢◌, ◌∙◌, List, ◌++◌, true, false, ◌||◌, refl, sym}
use Rattle.std.specs.List.{list_any}
use Rattle.std.proofs.lemmas.Bool.{or_left, or_right}
use Rattle.std.proofs.lemmas.List.Folds.{list_any-append}
use Rattle.base_language.specs.Language.Expression.{Expression, Grammar, RuleType, Normal, Silent, Atomic, CompoundAtomic, NonAtomic, Ident, PosPred, NegPred, Seq, Choice, Opt, Rep, RepOnce, RepExact, RepMin, RepMax, RepMinMax, Push, NodeTag, RestoreOnErr, Part, whole, of_pos_pred, of_neg_pred, of_seq_left, of_seq_right, of_choice_left, of_choice_right, of_opt, of_rep, of_rep_once, of_rep_exact, of_rep_min, of_rep_max, of_rep_min_max, of_push, of_tag, of_restore}
use Rattle.base_language.specs.Rewritings.Listing.{listed}
use Rattle.base_language.specs.Rewritings.Rewriting.{IsDone, Nowhere, Rotates, SkipsUntil, no_step, skip_until}
use Rattle.lint_patterns.specs.Rewritten.{IsPassed, has_turn, is_searched, is_turn, parts}
use Rattle.front_optimizer.specs.Passes.{IsOptimizedBody}
use Rattle.front_restorer.specs.Changing.{HasNoWrappers}

-- in two lists of parts
in_left : (xs ys : List Expression) → list_any is_turn xs ≡ true → list_any is_turn (xs ++ ys) ≡ true
in_left xs ys h = list_any-append is_turn xs ys ∙ or_left (list_any is_turn xs) (list_any is_turn ys) h

in_right : (xs ys : List Expression) → list_any is_turn ys ≡ true → list_any is_turn (xs ++ ys) ≡ true
in_right xs ys h = list_any-append is_turn xs ys ∙ or_right (list_any is_turn xs) (list_any is_turn ys) h

turn_here : (p : Expression) → is_turn p ≡ true → has_turn p ≡ true
turn_here (Rep (Seq (NegPred c) (Ident n))) h = refl
turn_here _ h = cc

-- below an operator
deeper : (e d : Expression) → has_turn e ≡ true → (is_turn d || has_turn e) ≡ true
deeper e d h = or_right (is_turn d) (has_turn e) h

turn_within : (e p : Expression) → Part e p → is_turn p ≡ true → has_turn e ≡ true
turn_within _ _ (whole {e = e}) h = turn_here e h
turn_within _ p (of_pos_pred {e = d} k) h = deeper d (PosPred d) (turn_within d p k h)
turn_within _ p (of_neg_pred {e = d} k) h = deeper d (NegPred d) (turn_within d p k h)
turn_within _ p (of_seq_left {a = a} {b = b} k) h = or_right (is_turn (Seq a b)) _ (in_left (parts a) (parts b) (turn_within a p k h))
turn_within _ p (of_seq_right {a = a} {b = b} k) h = or_right (is_turn (Seq a b)) _ (in_right (parts a) (parts b) (turn_within b p k h))
turn_within _ p (of_choice_left {a = a} {b = b} k) h = or_right (is_turn (Choice a b)) _ (in_left (parts a) (parts b) (turn_within a p k h))
turn_within _ p (of_choice_right {a = a} {b = b} k) h = or_right (is_turn (Choice a b)) _ (in_right (parts a) (parts b) (turn_within b p k h))
turn_within _ p (of_opt {e = d} k) h = deeper d (Opt d) (turn_within d p k h)
turn_within _ p (of_rep {e = d} k) h = deeper d (Rep d) (turn_within d p k h)
turn_within _ p (of_rep_once {e = d} k) h = deeper d (RepOnce d) (turn_within d p k h)
turn_within _ p (of_rep_exact {e = d} {i = i} k) h = deeper d (RepExact d i) (turn_within d p k h)
turn_within _ p (of_rep_min {e = d} {i = i} k) h = deeper d (RepMin d i) (turn_within d p k h)
turn_within _ p (of_rep_max {e = d} {i = i} k) h = deeper d (RepMax d i) (turn_within d p k h)
turn_within _ p (of_rep_min_max {e = d} {i = i} {j = j} k) h = deeper d (RepMinMax d i j) (turn_within d p k h)
turn_within _ p (of_push {e = d} k) h = deeper d (Push d) (turn_within d p k h)
turn_within _ p (of_tag {e = d} {t = t} k) h = deeper d (NodeTag d t) (turn_within d p k h)
turn_within _ p (of_restore {e = d} k) h = deeper d (RestoreOnErr d) (turn_within d p k h)

skips_turn : (g : Grammar) (y : RuleType) (p q : Expression) → SkipsUntil g y p q → (y ≡ Atomic) × (is_turn p ≡ true)
skips_turn g _ _ _ (skip_until h) = (refl, refl)

true_is_not_false : true ≡ false → ⊥
true_is_not_false h = cc

none_skipped : (g : Grammar) (y : RuleType) (a : Expression) → is_searched y a ≡ false → Nowhere (SkipsUntil g y) a
none_skipped g Atomic a h = λ p q part s. true_is_not_false (sym (turn_within a p part (skips_turn g Atomic p q s).1) ∙ h)
none_skipped g Normal a h = λ p q part s. let z = (skips_turn g Normal p q s).0 in cc
none_skipped g Silent a h = λ p q part s. let z = (skips_turn g Silent p q s).0 in cc
none_skipped g CompoundAtomic a h = λ p q part s. let z = (skips_turn g CompoundAtomic p q s).0 in cc
none_skipped g NonAtomic a h = λ p q part s. let z = (skips_turn g NonAtomic p q s).0 in cc

pub all_passes : (g : Grammar) (y : RuleType) (e a b : Expression) → IsDone Rotates e a → is_searched y a ≡ false → IsPassed y a b → HasNoWrappers (listed b) → IsOptimizedBody g y e (listed b)
all_passes g y e a b rotates free h bare = record {
  rotated = a;
  skipped = a;
  unrolled = h.unrolled;
  joined = h.joined;
  factored = b;
  rotates = rotates;
  skips = record { reached = no_step; nowhere = none_skipped g y a free };
  unrolls = h.unrolls;
  joins = h.joins;
  factors = h.factors;
  lists = refl;
  bare = bare;
}
