-- Steps keep a grammar well-formed and plain, and keep it a grammar.
use Rattle.std.proofs.Common.{◌≡◌, ◌-◌, min, List, [], ◌∷◌, ◌++◌, refl, sym, subst, Some, ℕ, ◌<◌}
use Rattle.base_language.specs.Language.Expression.{Grammar, Expression, Str, Insens, Seq, Opt, Rep, RuleType, Rule, RepMin, RepMinMax, rule_of}
use Rattle.base_language.specs.Language.Text.{Text}
use Rattle.base_language.specs.Language.Meaning.{in_sequence}
use Rattle.base_language.specs.Rewritings.Rewriting.{by_rotating, by_unrolling, by_skipping, by_joining, by_factoring, Rewrites, rotate_sequence, rotate_choice, unroll_exact, unroll_min, unroll_max, unroll_min_max, skip_until, join_literals, join_insensitive, factor_prefix, factor_optional, factor_optional_compound, factor_absorbed, Changed, this, later, Chain, done, step, Many, no_step, one_step, EachBody, no_rules, also_rule}
use Rattle.base_language.specs.Language.Grammar.{IsGrammar}
use Rattle.base_language.specs.Language.WellFormed.{IsNullable, nullable_str, nullable_insens, nullable_rep, nullable_rep_max, nullable_seq, nullable_left, nullable_right, LeftCalls, left_first, left_second, left_left, left_right, left_opt, left_rep, left_rep_exact, left_rep_min, left_rep_max, left_rep_min_max, IsWellFormed, CountIsReadable, HasReadableCounts, NamesHaveReadableCounts, IsPlain}
use Rattle.base_language.proofs.Moving.{Each', no_more, also, each_copy, each_of_both, in_all, nullable_copies, nullable_at_least, nullable_from_to}
use Rattle.base_language.proofs.Everywhere.{Condition, HoldsHere, Everywhere, everywhere, in_sequence_too}
use Rattle.base_language.proofs.BodiesKeepGrammars.{bounding, IsClosed, KeepsAtRoot, names_still_readable, still_well_formed, still_plain, still_readable, still_grammar}

abbrev Bounds : ℕ → ℕ → Type 0
Bounds i j = 0 < j

bounded : (g : Grammar) → NamesHaveReadableCounts g → (n : Text) (r : Rule) → rule_of g n ≡ Some r → Everywhere (bounding Bounds) r.body
bounded g c n r e = everywhere (bounding Bounds) r.body (λ p d. here p (c p (n, r, e, d)))
  where
    here : (p : Expression) → CountIsReadable p → HoldsHere (bounding Bounds) p
    here (RepMinMax x i j) k = k
    here (RepMin x i) k = (tt, tt)
    here _ k = tt

no_text : (a b : Text) → a ++ b ≡ [] → (a ≡ []) × (b ≡ [])
no_text [] b h = (refl, h)
no_text (c ∷ a) b h = cc

module _ (f : Grammar) where
  -- nullable behind a rewriting, and so before
  str_empty : {t : Text} → IsNullable f (Str t) → t ≡ []
  str_empty nullable_str = refl

  insens_empty : {t : Text} → IsNullable f (Insens t) → t ≡ []
  insens_empty nullable_insens = refl

  both_str : {a b : Text} → (a ≡ []) × (b ≡ []) → IsNullable f (Seq (Str a) (Str b))
  both_str h = nullable_seq (subst (λ t. IsNullable f (Str t)) (sym h.0) nullable_str) (subst (λ t. IsNullable f (Str t)) (sym h.1) nullable_str)

  both_insens : {a b : Text} → (a ≡ []) × (b ≡ []) → IsNullable f (Seq (Insens a) (Insens b))
  both_insens h = nullable_seq (subst (λ t. IsNullable f (Insens t)) (sym h.0) nullable_insens) (subst (λ t. IsNullable f (Insens t)) (sym h.1) nullable_insens)

  nullable_here : {g : Grammar} {y : RuleType} {a b : Expression} → Rewrites g y a b → Everywhere (bounding Bounds) a → IsNullable f b → IsNullable f a
  nullable_here (by_rotating rotate_sequence) c (nullable_seq a (nullable_seq b d)) = nullable_seq (nullable_seq a b) d
  nullable_here (by_rotating rotate_choice) c (nullable_left a) = nullable_left (nullable_left a)
  nullable_here (by_rotating rotate_choice) c (nullable_right (nullable_left b)) = nullable_left (nullable_right b)
  nullable_here (by_rotating rotate_choice) c (nullable_right (nullable_right d)) = nullable_right d
  nullable_here (by_unrolling (unroll_exact {e = e} {i = i})) c n = nullable_copies f e i n
  nullable_here (by_unrolling (unroll_min {e = e} {i = i})) c n = nullable_at_least f e i n
  nullable_here (by_unrolling unroll_max) c n = nullable_rep_max
  nullable_here (by_unrolling (unroll_min_max {e = e} {i = i} {j = j})) c n = nullable_from_to f e i j c.0 n
  nullable_here (by_skipping (skip_until s)) c n = nullable_rep
  nullable_here (by_joining (join_literals {a = a} {b = b})) c n = both_str (no_text a b (str_empty n))
  nullable_here (by_joining (join_insensitive {a = a} {b = b})) c n = both_insens (no_text a b (insens_empty n))
  nullable_here (by_factoring factor_prefix) c (nullable_seq l (nullable_left r)) = nullable_left (nullable_seq l r)
  nullable_here (by_factoring factor_prefix) c (nullable_seq l (nullable_right r)) = nullable_right (nullable_seq l r)
  nullable_here (by_factoring factor_optional) c (nullable_seq l r) = nullable_right l
  nullable_here (by_factoring factor_optional_compound) c (nullable_seq l r) = nullable_right l
  nullable_here (by_factoring factor_absorbed) c n = nullable_left n

  -- left-called behind a rewriting, and so before
  left_of_sequence : {k : Text} (X : Type 0) {es : List Expression} → Each' (λ e. LeftCalls f e k → X) es → LeftCalls f (in_sequence es) k → X
  left_of_sequence {k} X s = in_all (λ e. LeftCalls f e k → X) none_of both_of s
    where
      none_of : LeftCalls f (Str []) k → X
      none_of l = elim l [ ]

      both_of : (a b : Expression) → (LeftCalls f a k → X) → (LeftCalls f b k → X) → LeftCalls f (Seq a b) k → X
      both_of a b p q (left_first l) = p l
      both_of a b p q (left_second n l) = q l

  left_of_opt : {k : Text} {e : Expression} {X : Type 0} → (LeftCalls f e k → X) → LeftCalls f (Opt e) k → X
  left_of_opt p (left_opt l) = p l

  left_of_rep : {k : Text} {e : Expression} {X : Type 0} → (LeftCalls f e k → X) → LeftCalls f (Rep e) k → X
  left_of_rep p (left_rep l) = p l

  left_here : {g : Grammar} {y : RuleType} {a b : Expression} {k : Text} → Rewrites g y a b → LeftCalls f b k → LeftCalls f a k
  left_here (by_rotating rotate_sequence) (left_first l) = left_first (left_first l)
  left_here (by_rotating rotate_sequence) (left_second n (left_first l)) = left_first (left_second n l)
  left_here (by_rotating rotate_sequence) (left_second n (left_second i l)) = left_second (nullable_seq n i) l
  left_here (by_rotating rotate_choice) (left_left l) = left_left (left_left l)
  left_here (by_rotating rotate_choice) (left_right (left_left l)) = left_left (left_right l)
  left_here (by_rotating rotate_choice) (left_right (left_right l)) = left_right l
  left_here (by_unrolling (unroll_exact {i = i})) l = left_of_sequence _ (each_copy _ i left_rep_exact) l
  left_here (by_unrolling (unroll_min {i = i})) l = left_of_sequence _ (each_of_both _ (each_copy _ i left_rep_min) (also (left_of_rep left_rep_min) no_more)) l
  left_here (by_unrolling (unroll_max {i = i})) l = left_of_sequence _ (each_copy _ i (left_of_opt left_rep_max)) l
  left_here (by_unrolling (unroll_min_max {i = i} {j = j})) l = left_of_sequence _ (each_of_both _ (each_copy _ (min i j) left_rep_min_max) (each_copy _ (j - i) (left_of_opt left_rep_min_max))) l
  left_here (by_skipping (skip_until s)) l = elim l [ ]
  left_here (by_joining join_literals) l = elim l [ ]
  left_here (by_joining join_insensitive) l = elim l [ ]
  left_here (by_factoring factor_prefix) (left_first l) = left_left (left_first l)
  left_here (by_factoring factor_prefix) (left_second n (left_left l)) = left_left (left_second n l)
  left_here (by_factoring factor_prefix) (left_second n (left_right l)) = left_right (left_second n l)
  left_here (by_factoring factor_optional) (left_first l) = left_right l
  left_here (by_factoring factor_optional) (left_second n (left_opt l)) = left_left (left_second n l)
  left_here (by_factoring factor_optional_compound) (left_first l) = left_right l
  left_here (by_factoring factor_optional_compound) (left_second n (left_opt l)) = left_left (left_second n l)
  left_here (by_factoring factor_absorbed) l = left_left l

-- what holds of all parts before a rewriting, and so behind
module _ (g : Grammar) (c : Condition) (closed : IsClosed g c) where
  parts_here : {y : RuleType} {a b : Expression} → Rewrites g y a b → Everywhere c a → Everywhere c b
  parts_here (by_rotating rotate_sequence) h = (h.0.0, (h.0.1, h.1))
  parts_here (by_rotating rotate_choice) h = (h.0.0, (h.0.1, h.1))
  parts_here (by_unrolling (unroll_exact {i = i})) h = in_sequence_too c closed.empty (each_copy _ i h.1)
  parts_here (by_unrolling (unroll_min {i = i})) h = in_sequence_too c closed.empty (each_of_both _ (each_copy _ i h.1) (also (h.0.0, h.1) no_more))
  parts_here (by_unrolling (unroll_max {i = i})) h = in_sequence_too c closed.empty (each_copy _ i h.1)
  parts_here (by_unrolling (unroll_min_max {i = i} {j = j})) h = in_sequence_too c closed.empty (each_of_both _ (each_copy _ (min i j) h.1) (each_copy _ (j - i) h.1))
  parts_here (by_skipping (skip_until s)) h = closed.strings _ _ s h.1.0
  parts_here (by_joining join_literals) h = closed.joined _ _ h.0 h.1
  parts_here (by_joining join_insensitive) h = closed.joined_insensitive _ _ h.0 h.1
  parts_here (by_factoring factor_prefix) h = (h.0.0, (h.0.1, h.1.1))
  parts_here (by_factoring factor_optional) h = (h.0.0, h.0.1)
  parts_here (by_factoring factor_optional_compound) h = (h.0.0, h.0.1)
  parts_here (by_factoring factor_absorbed) h = h.0

rewritings : (g : Grammar) → KeepsAtRoot g (Rewrites g) Bounds
rewritings g = record {
  nullable = λ f y a b. nullable_here f;
  left = λ f y a b n. left_here f;
  parts = λ c closed y a b. parts_here g c closed;
}

-- a step as a change of each body
unchanged : (R : RuleType → Expression → Expression → Type 0) (g : Grammar) → EachBody (λ y. Many (R y)) g g
unchanged R [] = no_rules
unchanged R (r ∷ g) = also_rule {b = r.body} no_step (unchanged R g)

each_body : {g rs qs : Grammar} → Changed g rs qs → EachBody (λ y. Many (Rewrites g y)) rs qs
each_body {g} (this {rs = rs} w) = also_rule (one_step w no_step) (unchanged (Rewrites g) rs)
each_body (later {r = r} c) = also_rule {b = r.body} no_step (each_body c)

-- along a chain
pub names_readable_along : (g h : Grammar) → Chain g h → NamesHaveReadableCounts g → NamesHaveReadableCounts h
names_readable_along g h done c = c
names_readable_along g h (step {h = i} s d) c = names_readable_along i h d (names_still_readable g (Rewrites g) Bounds (rewritings g) i (each_body s) c)

pub well_formed_along : (g h : Grammar) → Chain g h → NamesHaveReadableCounts g → IsWellFormed g → IsWellFormed h
well_formed_along g h done c w = w
well_formed_along g h (step {h = i} s d) c w =
    let e = each_body s in
    well_formed_along i h d (names_still_readable g (Rewrites g) Bounds (rewritings g) i e c) (still_well_formed g (Rewrites g) Bounds (rewritings g) i e (bounded g c) w)

pub plain_along : (g h : Grammar) → Chain g h → IsPlain g → IsPlain h
plain_along g h done p = p
plain_along g h (step {h = i} s d) p = plain_along i h d (still_plain g (Rewrites g) Bounds (rewritings g) i (each_body s) p)

pub readable_along : (g h : Grammar) → Chain g h → HasReadableCounts g → HasReadableCounts h
readable_along g h done c = c
readable_along g h (step {h = i} s d) c = readable_along i h d (still_readable g (Rewrites g) Bounds (rewritings g) (each_body s) c)

pub grammar_along : (g h : Grammar) → Chain g h → IsGrammar g → IsGrammar h
grammar_along g h done x = x
grammar_along g h (step {h = i} s d) x = grammar_along i h d (still_grammar g (Rewrites g) Bounds (rewritings g) (each_body s) x)
