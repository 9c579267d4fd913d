-- What is unrolled stays unrolled by the passes behind, and has no wrapper where it is read.
use Rattle.std.proofs.Common.{Bool, true, false, if◌then◌else◌}
use Rattle.base_language.specs.Language.Expression.{Expression, RuleType, Str, Insens, Range, Ident, PeekSlice, PosPred, NegPred, Seq, Choice, Opt, Rep, RepOnce, Skip, Push, RestoreOnErr, PushLiteral, NodeTag}
use Rattle.base_language.specs.Rewritings.Equality.{expression_eq}
use Rattle.base_language.specs.Rewritings.Listing.{listed, listed_sequence}
use Rattle.base_language.specs.Rewritings.Rewriting.{Within, here, in_pos_pred, in_neg_pred, in_seq_left, in_seq_right, in_choice_left, in_choice_right, in_opt, in_rep, in_rep_once, in_push, in_restore, Many, no_step, one_step, Joins, join_literals, join_insensitive, Factors, factor_prefix, factor_optional, factor_optional_compound, factor_absorbed, in_tag}
use Rattle.front_optimizer.specs.Unrolled.{IsUnrolled}

module _ (R : Expression → Expression → Type 0) (root : (a b : Expression) → R a b → IsUnrolled a → IsUnrolled b) where
  within : {a b : Expression} → Within R a b → IsUnrolled a → IsUnrolled b
  within (here r) u = root _ _ r u
  within (in_pos_pred w) u = within w u
  within (in_neg_pred w) u = within w u
  within (in_seq_left w) u = (within w u.0, u.1)
  within (in_seq_right w) u = (u.0, within w u.1)
  within (in_choice_left w) u = (within w u.0, u.1)
  within (in_choice_right w) u = (u.0, within w u.1)
  within (in_opt w) u = within w u
  within (in_rep w) u = within w u
  within (in_rep_once w) u = within w u
  within (in_push w) u = within w u
  within (in_tag w) u = within w u
  within (in_restore w) u = within w u
  within _ u = absurd u

  many : {a b : Expression} → Many R a b → IsUnrolled a → IsUnrolled b
  many no_step u = u
  many (one_step w m) u = many m (within w u)

joined : {y : RuleType} (a b : Expression) → Joins y a b → IsUnrolled a → IsUnrolled b
joined a b join_literals u = tt
joined a b join_insensitive u = tt

factored : {y : RuleType} (a b : Expression) → Factors y a b → IsUnrolled a → IsUnrolled b
factored a b factor_prefix u = (u.0.0, (u.0.1, u.1.1))
factored a b factor_optional u = u.0
factored a b factor_optional_compound u = u.0
factored a b factor_absorbed u = u.0

pub by_joins : {y : RuleType} {a b : Expression} → Many (Joins y) a b → IsUnrolled a → IsUnrolled b
by_joins {y = y} m u = many (Joins y) joined m u

pub by_factors : {y : RuleType} {a b : Expression} → Many (Factors y) a b → IsUnrolled a → IsUnrolled b
by_factors {y = y} m u = many (Factors y) factored m u

chosen : (t : Bool) (a b : Expression) → IsUnrolled a → IsUnrolled b → IsUnrolled (if t then a else b)
chosen true a b u v = u
chosen false a b u v = v

sequence : (a b : Expression) → IsUnrolled a → IsUnrolled b → IsUnrolled (listed_sequence a b)
sequence (Rep (Seq x y)) z u v = chosen (expression_eq x z) _ _ (u.0, (u.1, u.0)) (u, v)
sequence a b u v = (u, v)

pub by_listing : (a : Expression) → IsUnrolled a → IsUnrolled (listed a)
by_listing (Seq a b) u = sequence (listed a) (listed b) (by_listing a u.0) (by_listing b u.1)
by_listing (Choice a b) u = (by_listing a u.0, by_listing b u.1)
by_listing (PosPred e) u = by_listing e u
by_listing (NegPred e) u = by_listing e u
by_listing (Opt e) u = by_listing e u
by_listing (Rep e) u = by_listing e u
by_listing (RepOnce e) u = by_listing e u
by_listing (Push e) u = by_listing e u
by_listing (NodeTag e t) u = by_listing e u
by_listing (RestoreOnErr e) u = by_listing e u
by_listing (Str s) u = u
by_listing (Insens s) u = u
by_listing (Range s t) u = u
by_listing (Ident n) u = u
by_listing (PeekSlice i j) u = u
by_listing (Skip ss) u = u
by_listing (PushLiteral s) u = u
by_listing _ u = absurd u
