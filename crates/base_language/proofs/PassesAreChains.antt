-- A pass is a chain of steps.
use Rattle.std.proofs.Common.{◌∷◌}
use Rattle.base_language.specs.Language.Expression.{Expression, RuleType, Rule, Grammar}
use Rattle.base_language.specs.Rewritings.Rewriting.{by_rotating, by_unrolling, by_skipping, by_joining, by_factoring, Rewrites, rotate_sequence, rotate_choice, unroll_exact, unroll_min, unroll_max, unroll_min_max, skip_until, join_literals, join_insensitive, factor_prefix, factor_optional, factor_optional_compound, factor_absorbed, Within, here, in_pos_pred, in_neg_pred, in_seq_left, in_seq_right, in_choice_left, in_choice_right, in_opt, in_rep, in_rep_once, in_rep_exact, in_rep_min, in_rep_max, in_rep_min_max, in_push, in_restore, Changed, this, later, Step, Chain, done, step, Many, no_step, one_step, EachRewritten, no_rules, also_rule, in_tag}
use Rattle.base_language.proofs.StepsKeepOutcomes.{differs, still_known}

-- a rewriting that may be done before a step may be done behind it
rewrites_still : {g h : Grammar} {y : RuleType} {a b : Expression} → Step g h → Rewrites g y a b → Rewrites h y a b
rewrites_still {g} {h} c (by_skipping (skip_until d)) = by_skipping (skip_until (still_known g h (differs c) d))
rewrites_still c (by_rotating rotate_sequence) = (by_rotating rotate_sequence)
rewrites_still c (by_rotating rotate_choice) = (by_rotating rotate_choice)
rewrites_still c (by_unrolling unroll_exact) = (by_unrolling unroll_exact)
rewrites_still c (by_unrolling unroll_min) = (by_unrolling unroll_min)
rewrites_still c (by_unrolling unroll_max) = (by_unrolling unroll_max)
rewrites_still c (by_unrolling unroll_min_max) = (by_unrolling unroll_min_max)
rewrites_still c (by_joining join_literals) = (by_joining join_literals)
rewrites_still c (by_joining join_insensitive) = (by_joining join_insensitive)
rewrites_still c (by_factoring factor_prefix) = (by_factoring factor_prefix)
rewrites_still c (by_factoring factor_optional) = (by_factoring factor_optional)
rewrites_still c (by_factoring factor_optional_compound) = (by_factoring factor_optional_compound)
rewrites_still c (by_factoring factor_absorbed) = (by_factoring factor_absorbed)

pub within_still : {g h : Grammar} {y : RuleType} {a b : Expression} → Step g h → Within (Rewrites g y) a b → Within (Rewrites h y) a b
within_still c (here w) = here (rewrites_still c w)
within_still c (in_pos_pred w) = in_pos_pred (within_still c w)
within_still c (in_neg_pred w) = in_neg_pred (within_still c w)
within_still c (in_seq_left w) = in_seq_left (within_still c w)
within_still c (in_seq_right w) = in_seq_right (within_still c w)
within_still c (in_choice_left w) = in_choice_left (within_still c w)
within_still c (in_choice_right w) = in_choice_right (within_still c w)
within_still c (in_opt w) = in_opt (within_still c w)
within_still c (in_rep w) = in_rep (within_still c w)
within_still c (in_rep_once w) = in_rep_once (within_still c w)
within_still c (in_rep_exact w) = in_rep_exact (within_still c w)
within_still c (in_rep_min w) = in_rep_min (within_still c w)
within_still c (in_rep_max w) = in_rep_max (within_still c w)
within_still c (in_rep_min_max w) = in_rep_min_max (within_still c w)
within_still c (in_push w) = in_push (within_still c w)
within_still c (in_tag w) = in_tag (within_still c w)
within_still c (in_restore w) = in_restore (within_still c w)

-- what may be done over g may be done over h
abbrev pub Known : Grammar → Grammar → Type 0
Known g h = (y : RuleType) (a b : Expression) → Within (Rewrites g y) a b → Within (Rewrites h y) a b

pub known_along : {g h i : Grammar} → Known g h → Chain h i → Known g i
known_along k done = k
known_along k (step c d) = known_along (λ y a b w. within_still c (k y a b w)) d

module _ (g : Grammar) where
  -- a place in a list of rules: what stands before it
  abbrev Deep : (Grammar → Grammar) → Type 0
  Deep put = (f rs qs : Grammar) → Changed f rs qs → Changed f (put rs) (put qs)

  abbrev with_body : Rule → Expression → Rule
  with_body r b = record r { body = b }

  in_rule : (put : Grammar → Grammar) → Deep put → (r : Rule) (rs i : Grammar) {a b : Expression} → Many (Rewrites g r.type_of) a b
      → Known g (put (with_body r a ∷ rs)) → (Known g (put (with_body r b ∷ rs)) → Chain (put (with_body r b ∷ rs)) i) → Chain (put (with_body r a ∷ rs)) i
  in_rule put deep r rs i no_step k f = f k
  in_rule put deep r rs i (one_step w ws) k f =
      let c = deep _ _ _ (this (k _ _ _ w)) in
      step c (in_rule put deep r rs i ws (λ y a b v. within_still c (k y a b v)) f)

  in_rules : (put : Grammar → Grammar) → Deep put → {rs qs : Grammar} → EachRewritten g rs qs → Known g (put rs) → Chain (put rs) (put qs)
  in_rules put deep no_rules k = done
  in_rules put deep (also_rule {r = r} {b = b} {rs = rs} {qs = qs} w e) k =
      in_rule put deep r rs (put (with_body r b ∷ qs)) w k
      (λ k. in_rules (λ x. put (with_body r b ∷ x)) (λ f rs qs c. deep f _ _ (later c)) e k)

-- a pass over the rules h, with names looked up in g
pub pass : {g h i : Grammar} → Chain g h → EachRewritten g h i → Chain h i
pass {g} c e = in_rules g (λ x. x) (λ f rs qs c. c) e (known_along (λ y a b w. w) c)
