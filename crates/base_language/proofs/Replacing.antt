-- A rule with steps of one kind in the place of the rule.
use Rattle.std.proofs.Common.{[], ◌∷◌, ◌++◌}
use Rattle.base_language.specs.Language.Expression.{Expression, RuleType, Rule, Grammar}
use Rattle.base_language.specs.Rewritings.Rewriting.{Rewrites, by_rotating, by_unrolling, by_joining, by_factoring, Rotates, Unrolls, Joins, Factors, Many, no_step, one_step, Within, here, in_pos_pred, in_neg_pred, in_seq_left, in_seq_right, in_choice_left, in_choice_right, in_opt, in_rep, in_rep_once, in_rep_exact, in_rep_min, in_rep_max, in_rep_min_max, in_push, in_restore, EachBody, no_rules, also_rule, SameOutcomes, Chain, done, in_tag}
use Rattle.base_language.specs.Rewritings.Replacing.{KeepsOutcomes, IsChained}
use Rattle.base_language.proofs.StepsKeepOutcomes as keeping
use Rattle.base_language.proofs.StepsKeepOutcomes.{each_body}
use Rattle.base_language.proofs.PassesAreChains.{pass}

abbrev pub with_body : Rule → Expression → Rule
with_body r b = record r { body = b }

-- what one relation does another does, at any place and often
module _ (R S : Expression → Expression → Type 0) (f : (a b : Expression) → R a b → S a b) where
  within : {a b : Expression} → Within R a b → Within S a b
  within (here r) = here (f _ _ r)
  within (in_pos_pred w) = in_pos_pred (within w)
  within (in_neg_pred w) = in_neg_pred (within w)
  within (in_seq_left w) = in_seq_left (within w)
  within (in_seq_right w) = in_seq_right (within w)
  within (in_choice_left w) = in_choice_left (within w)
  within (in_choice_right w) = in_choice_right (within w)
  within (in_opt w) = in_opt (within w)
  within (in_rep w) = in_rep (within w)
  within (in_rep_once w) = in_rep_once (within w)
  within (in_rep_exact w) = in_rep_exact (within w)
  within (in_rep_min w) = in_rep_min (within w)
  within (in_rep_max w) = in_rep_max (within w)
  within (in_rep_min_max w) = in_rep_min_max (within w)
  within (in_push w) = in_push (within w)
  within (in_tag w) = in_tag (within w)
  within (in_restore w) = in_restore (within w)

  pub many : {a b : Expression} → Many R a b → Many S a b
  many no_step = no_step
  many (one_step w m) = one_step (within w) (many m)

-- steps R in one of many rules
module _ (R : RuleType → Expression → Expression → Type 0) where
  unchanged : (g : Grammar) → EachBody (λ y. Many (R y)) g g
  unchanged [] = no_rules
  unchanged (r ∷ g) = also_rule {b = r.body} no_step (unchanged g)

  pub replaced : (r : Rule) (b : Expression) → Many (R r.type_of) r.body b → (before after : Grammar) → EachBody (λ y. Many (R y)) (before ++ r ∷ after) (before ++ with_body r b ∷ after)
  replaced r b m [] after = also_rule m (unchanged after)
  replaced r b m (p ∷ before) after = also_rule {b = p.body} no_step (replaced r b m before after)

  -- where they are steps of chains, a pass of them is a chain
  module _ (steps : (g : Grammar) (y : RuleType) (a b : Expression) → R y a b → Rewrites g y a b) where
    pub pass_chain : {g h : Grammar} → EachBody (λ y. Many (R y)) g h → Chain g h
    pass_chain {g} {h} e = pass done (each_body (λ y. Many (R y)) (λ y. Many (Rewrites g y)) (λ y a b m. many (R y) (Rewrites g y) (steps g y) m) e)

    pub chained : (r : Rule) (b : Expression) → Many (R r.type_of) r.body b → IsChained r (with_body r b)
    chained r b m before after = pass_chain (replaced r b m before after)

  pub kept : ((g h : Grammar) → EachBody (λ y. Many (R y)) g h → SameOutcomes g h) → (r : Rule) (b : Expression) → Many (R r.type_of) r.body b → KeepsOutcomes r (with_body r b)
  kept keep r b m before after = keep (before ++ r ∷ after) (before ++ with_body r b ∷ after) (replaced r b m before after)

rotating : (g : Grammar) (y : RuleType) (a b : Expression) → Rotates a b → Rewrites g y a b
rotating g y a b w = by_rotating w

unrolling : (g : Grammar) (y : RuleType) (a b : Expression) → Unrolls a b → Rewrites g y a b
unrolling g y a b w = by_unrolling w

joining : (g : Grammar) (y : RuleType) (a b : Expression) → Joins y a b → Rewrites g y a b
joining g y a b w = by_joining w

factoring : (g : Grammar) (y : RuleType) (a b : Expression) → Factors y a b → Rewrites g y a b
factoring g y a b w = by_factoring w

pub rotations_chain : {g h : Grammar} → EachBody (λ y. Many Rotates) g h → Chain g h
rotations_chain = pass_chain (λ y. Rotates) rotating

pub unrollings_chain : {g h : Grammar} → EachBody (λ y. Many Unrolls) g h → Chain g h
unrollings_chain = pass_chain (λ y. Unrolls) unrolling

pub joinings_chain : {g h : Grammar} → EachBody (λ y. Many (Joins y)) g h → Chain g h
joinings_chain = pass_chain Joins joining

pub factorings_chain : {g h : Grammar} → EachBody (λ y. Many (Factors y)) g h → Chain g h
factorings_chain = pass_chain Factors factoring

-- a rule in which they are done
module _ (r : Rule) (b : Expression) where
  pub rotations_chained : Many Rotates r.body b → IsChained r (with_body r b)
  rotations_chained = chained (λ y. Rotates) rotating r b

  pub unrollings_chained : Many Unrolls r.body b → IsChained r (with_body r b)
  unrollings_chained = chained (λ y. Unrolls) unrolling r b

  pub joinings_chained : Many (Joins r.type_of) r.body b → IsChained r (with_body r b)
  joinings_chained = chained Joins joining r b

  pub factorings_chained : Many (Factors r.type_of) r.body b → IsChained r (with_body r b)
  factorings_chained = chained Factors factoring r b

  pub rotations_keep : Many Rotates r.body b → KeepsOutcomes r (with_body r b)
  rotations_keep = kept (λ y. Rotates) keeping.rotations_keep r b

  pub unrollings_keep : Many Unrolls r.body b → KeepsOutcomes r (with_body r b)
  unrollings_keep = kept (λ y. Unrolls) keeping.unrollings_keep r b

  pub joinings_keep : Many (Joins r.type_of) r.body b → KeepsOutcomes r (with_body r b)
  joinings_keep = kept Joins keeping.joinings_keep r b

  pub factorings_keep : Many (Factors r.type_of) r.body b → KeepsOutcomes r (with_body r b)
  factorings_keep = kept Factors keeping.factorings_keep r b
