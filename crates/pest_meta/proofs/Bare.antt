-- Expressions without wrappers, by their parts; the rewritings of the passes bring none in.
use Rattle.std.proofs.Common.{ℕ, zero, suc, ◌-◌, min, List, [], ◌∷◌, ◌++◌, replicate, Bool, true, false, if◌then◌else◌}
use Rattle.std.specs.Prelude.{⊤}
use Rattle.base_language.specs.Language.Expression.{Expression, PosPred, NegPred, Seq, Choice, Opt, Rep, RepOnce, RepExact, RepMin, RepMax, RepMinMax, Push, NodeTag, RestoreOnErr, RuleType, Grammar, Part, whole, of_pos_pred, of_neg_pred, of_seq_left, of_seq_right, of_choice_left, of_choice_right, of_opt, of_rep, of_rep_once, of_rep_exact, of_rep_min, of_rep_max, of_rep_min_max, of_push, of_tag, of_restore}
use Rattle.base_language.specs.Language.Meaning.{in_sequence}
use Rattle.base_language.specs.Rewritings.Equality.{expression_eq}
use Rattle.base_language.specs.Rewritings.Listing.{listed, listed_sequence}
use Rattle.base_language.specs.Rewritings.Rewriting.{Rotates, rotate_sequence, rotate_choice, SkipsUntil, skip_until, Unrolls, unroll_exact, unroll_min, unroll_max, unroll_min_max, Joins, join_literals, join_insensitive, Factors, factor_prefix, factor_optional, factor_optional_compound, factor_absorbed, Within, here, in_pos_pred, in_neg_pred, in_seq_left, in_seq_right, in_choice_left, in_choice_right, in_opt, in_rep, in_rep_once, in_rep_exact, in_rep_min, in_rep_max, in_rep_min_max, in_push, in_tag, in_restore, Many, no_step, one_step}
use Rattle.front_restorer.specs.Changing.{HasNoWrappers}

abbrev pub Bare : Expression → Type 0
Bare (PosPred e) = Bare e
Bare (NegPred e) = Bare e
Bare (Seq a b) = Bare a × Bare b
Bare (Choice a b) = Bare a × Bare b
Bare (Opt e) = Bare e
Bare (Rep e) = Bare e
Bare (RepOnce e) = Bare e
Bare (RepExact e i) = Bare e
Bare (RepMin e i) = Bare e
Bare (RepMax e i) = Bare e
Bare (RepMinMax e i j) = Bare e
Bare (Push e) = Bare e
Bare (NodeTag e t) = Bare e
Bare (RestoreOnErr e) = ⊥
Bare _ = ⊤

-- it says that no part is a wrapper
part : {e p : Expression} → Part e p → Bare e → Bare p
part whole u = u
part (of_pos_pred k) u = part k u
part (of_neg_pred k) u = part k u
part (of_seq_left k) u = part k u.0
part (of_seq_right k) u = part k u.1
part (of_choice_left k) u = part k u.0
part (of_choice_right k) u = part k u.1
part (of_opt k) u = part k u
part (of_rep k) u = part k u
part (of_rep_once k) u = part k u
part (of_rep_exact k) u = part k u
part (of_rep_min k) u = part k u
part (of_rep_max k) u = part k u
part (of_rep_min_max k) u = part k u
part (of_push k) u = part k u
part (of_tag k) u = part k u
part (of_restore k) u = absurd u

pub no_wrappers : (e : Expression) → Bare e → HasNoWrappers e
no_wrappers e u x k = part k u

pub bare : (e : Expression) → HasNoWrappers e → Bare e
bare (PosPred e) h = bare e (λ x k. h x (of_pos_pred k))
bare (NegPred e) h = bare e (λ x k. h x (of_neg_pred k))
bare (Seq a b) h = (bare a (λ x k. h x (of_seq_left k)), bare b (λ x k. h x (of_seq_right k)))
bare (Choice a b) h = (bare a (λ x k. h x (of_choice_left k)), bare b (λ x k. h x (of_choice_right k)))
bare (Opt e) h = bare e (λ x k. h x (of_opt k))
bare (Rep e) h = bare e (λ x k. h x (of_rep k))
bare (RepOnce e) h = bare e (λ x k. h x (of_rep_once k))
bare (RepExact e i) h = bare e (λ x k. h x (of_rep_exact k))
bare (RepMin e i) h = bare e (λ x k. h x (of_rep_min k))
bare (RepMax e i) h = bare e (λ x k. h x (of_rep_max k))
bare (RepMinMax e i j) h = bare e (λ x k. h x (of_rep_min_max k))
bare (Push e) h = bare e (λ x k. h x (of_push k))
bare (NodeTag e t) h = bare e (λ x k. h x (of_tag k))
bare (RestoreOnErr e) h = h e whole
bare _ h = tt

-- steps that bring in no wrapper at a node bring in none
module _ (R : Expression → Expression → Type 0) (f : (a b : Expression) → R a b → Bare a → Bare b) where
  within : {a b : Expression} → Within R a b → Bare a → Bare b
  within (here r) u = f _ _ r u
  within (in_pos_pred w) u = within w u
  within (in_neg_pred w) u = within w u
  within (in_seq_left w) u = (within w u.0, u.1)
  within (in_seq_right w) u = (u.0, within w u.1)
  within (in_choice_left w) u = (within w u.0, u.1)
  within (in_choice_right w) u = (u.0, within w u.1)
  within (in_opt w) u = within w u
  within (in_rep w) u = within w u
  within (in_rep_once w) u = within w u
  within (in_rep_exact w) u = within w u
  within (in_rep_min w) u = within w u
  within (in_rep_max w) u = within w u
  within (in_rep_min_max w) u = within w u
  within (in_push w) u = within w u
  within (in_tag w) u = within w u
  within (in_restore w) u = absurd u

  pub many : {a b : Expression} → Many R a b → Bare a → Bare b
  many no_step u = u
  many (one_step w m) u = many m (within w u)

pub rotated : (a b : Expression) → Rotates a b → Bare a → Bare b
rotated a b rotate_sequence u = (u.0.0, (u.0.1, u.1))
rotated a b rotate_choice u = (u.0.0, (u.0.1, u.1))

skipped : (g : Grammar) (y : RuleType) (a b : Expression) → SkipsUntil g y a b → Bare a → Bare b
skipped g y a b (skip_until k) u = tt

abbrev AllBare : List Expression → Type 0
AllBare [] = ⊤
AllBare (e ∷ es) = Bare e × AllBare es

copies : (e : Expression) (n : ℕ) → Bare e → AllBare (replicate n e)
copies e zero u = tt
copies e (suc n) u = (u, copies e n u)

both : (es fs : List Expression) → AllBare es → AllBare fs → AllBare (es ++ fs)
both [] fs u v = v
both (e ∷ es) fs u v = (u.0, both es fs u.1 v)

sequence : (es : List Expression) → AllBare es → Bare (in_sequence es)
sequence [] u = tt
sequence (e ∷ []) u = u.0
sequence (e ∷ (f ∷ es)) u = (u.0, sequence (f ∷ es) u.1)

unrolled : (a b : Expression) → Unrolls a b → Bare a → Bare b
unrolled a b (unroll_exact {e = e} {i = i}) u = sequence _ (copies e i u)
unrolled a b (unroll_min {e = e} {i = i}) u = sequence _ (both (replicate i e) (Rep e ∷ []) (copies e i u) (u, tt))
unrolled a b (unroll_max {e = e} {i = i}) u = sequence _ (copies (Opt e) i u)
unrolled a b (unroll_min_max {e = e} {i = i} {j = j}) u = sequence _ (both (replicate (min i j) e) (replicate (j - i) (Opt e)) (copies e (min i j) u) (copies (Opt e) (j - i) u))

joined : (y : RuleType) (a b : Expression) → Joins y a b → Bare a → Bare b
joined y a b join_literals u = tt
joined y a b join_insensitive u = tt

factored : (y : RuleType) (a b : Expression) → Factors y a b → Bare a → Bare b
factored y a b factor_prefix u = (u.0.0, (u.0.1, u.1.1))
factored y a b factor_optional u = u.0
factored y a b factor_optional_compound u = u.0
factored y a b factor_absorbed u = u.0

pub by_rotations : {a b : Expression} → Many Rotates a b → Bare a → Bare b
by_rotations m u = many Rotates rotated m u

pub by_skips : {g : Grammar} {y : RuleType} {a b : Expression} → Many (SkipsUntil g y) a b → Bare a → Bare b
by_skips {g = g} {y = y} m u = many (SkipsUntil g y) (skipped g y) m u

pub by_unrollings : {a b : Expression} → Many Unrolls a b → Bare a → Bare b
by_unrollings m u = many Unrolls unrolled m u

pub by_joins : {y : RuleType} {a b : Expression} → Many (Joins y) a b → Bare a → Bare b
by_joins {y = y} m u = many (Joins y) (joined y) m u

pub by_factors : {y : RuleType} {a b : Expression} → Many (Factors y) a b → Bare a → Bare b
by_factors {y = y} m u = many (Factors y) (factored y) m u

pub chosen : (t : Bool) (a b : Expression) → Bare a → Bare b → Bare (if t then a else b)
chosen true a b u v = u
chosen false a b u v = v

listed_pair : (a b : Expression) → Bare a → Bare b → Bare (listed_sequence a b)
listed_pair (Rep (Seq x y)) z u v = chosen (expression_eq x z) _ _ (u.0, (u.1, u.0)) (u, v)
listed_pair a b u v = (u, v)

pub by_listing : (a : Expression) → Bare a → Bare (listed a)
by_listing (Seq a b) u = listed_pair (listed a) (listed b) (by_listing a u.0) (by_listing b u.1)
by_listing (Choice a b) u = (by_listing a u.0, by_listing b u.1)
by_listing (PosPred e) u = by_listing e u
by_listing (NegPred e) u = by_listing e u
by_listing (Opt e) u = by_listing e u
by_listing (Rep e) u = by_listing e u
by_listing (RepOnce e) u = by_listing e u
by_listing (RepExact e i) u = by_listing e u
by_listing (RepMin e i) u = by_listing e u
by_listing (RepMax e i) u = by_listing e u
by_listing (RepMinMax e i j) u = by_listing e u
by_listing (Push e) u = by_listing e u
by_listing (NodeTag e t) u = by_listing e u
by_listing (RestoreOnErr e) u = absurd u
by_listing _ u = tt
