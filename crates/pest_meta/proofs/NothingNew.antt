-- Steps, the listing and the wrappers bring in no name, no range, and no way from one name to another.
use Rattle.std.proofs.Common.{◌≡◌, ◌-◌, min, [], ◌∷◌, Option, Some, refl, subst}
use Rattle.std.proofs.lemmas.List.Elements.{All-nil, All-cons, All-head, All-tail, All-contains}
use Rattle.std.specs.List.{All}
use Rattle.base_language.proofs.Everywhere.{Condition, nothing, Everywhere, HoldsHere, at_part, everywhere, in_sequence_too, kept_along}
use Rattle.base_language.proofs.ListingKeepsGrammars.{Finished, Finishes, lists, wraps}
use Rattle.base_language.proofs.Moving.{also, each_copy, each_of_both, no_more}
use Rattle.base_language.proofs.SomeRule.{each_rule}
use Rattle.base_language.proofs.StepsKeepOutcomes.{Matched, each_body, each_pair, neither, pairs, two}
use Rattle.base_language.specs.Language.Expression.{Expression, Grammar, Ident, Part, Range, RepMin, Rule, RuleType, Normal, rule_of}
use Rattle.base_language.specs.Language.Text.{Text}
use Rattle.base_language.specs.Language.WellFormed.{InSomeRule, Reaches, itself, onward}
use Rattle.base_language.specs.Rewritings.Rewriting.{Chain, Changed, EachBody, Many, Rewrites, Within, also_rule, by_factoring, by_joining, by_rotating, by_skipping, by_unrolling, done, factor_absorbed, factor_optional, factor_optional_compound, factor_prefix, join_insensitive, join_literals, later, no_rules, no_step, one_step, rotate_choice, rotate_sequence, skip_until, step, this, unroll_exact, unroll_max, unroll_min, unroll_min_max, Unrolls}
use Rattle.base_language.proofs.Basics.{same_some}
use Rattle.front_optimizer.specs.Passes.{IsUnrolling}
use Rattle.front_optimizer.specs.Written.{AreWrittenOut}
use Rattle.front_restorer.specs.Agreeing.{WrappersSuffice}

-- of each name what N says, and of each range what B says
abbrev asking : (Text → Type 0) → (Text → Text → Type 0) → Condition
asking N B = record nothing { name = N; range = B }

-- 1. at the root: what is so of every name and range before is so of every one behind
module _ (N : Text → Type 0) (B : Text → Text → Type 0) where
  abbrev Asked : Expression → Type 0
  Asked = Everywhere (asking N B)

  pub step_here : {g : Grammar} {y : RuleType} {a b : Expression} → Rewrites g y a b → Asked a → Asked b
  step_here (by_rotating rotate_sequence) h = (h.0.0, (h.0.1, h.1))
  step_here (by_rotating rotate_choice) h = (h.0.0, (h.0.1, h.1))
  step_here (by_unrolling (unroll_exact {i = i})) h = in_sequence_too (asking N B) tt (each_copy _ i h.1)
  step_here (by_unrolling (unroll_min {i = i})) h = in_sequence_too (asking N B) tt (each_of_both _ (each_copy _ i h.1) (also (h.0.0, h.1) no_more))
  step_here (by_unrolling (unroll_max {i = i})) h = in_sequence_too (asking N B) tt (each_copy _ i h.1)
  step_here (by_unrolling (unroll_min_max {i = i} {j = j})) h = in_sequence_too (asking N B) tt (each_of_both _ (each_copy _ (min i j) h.1) (each_copy _ (j - i) h.1))
  step_here (by_skipping (skip_until s)) h = tt
  step_here (by_joining join_literals) h = tt
  step_here (by_joining join_insensitive) h = tt
  step_here (by_factoring factor_prefix) h = (h.0.0, (h.0.1, h.1.1))
  step_here (by_factoring factor_optional) h = (h.0.0, h.0.1)
  step_here (by_factoring factor_optional_compound) h = (h.0.0, h.0.1)
  step_here (by_factoring factor_absorbed) h = h.0

  pub finish_here : {a b : Expression} → Finishes a b → Asked a → Asked b
  finish_here lists h = (h.1, (tt, (h.0.1.1, h.1)))
  finish_here wraps h = h

-- 2. along changes of a body, in a rule of whatever type: each name and range stood there before
abbrev pub IsNameOrRange : Expression → Type 0
IsNameOrRange (Ident n) = Unit {0}
IsNameOrRange (Range t u) = Unit {0}
IsNameOrRange _ = ⊥

abbrev pub HasNothingNew : RuleType → Expression → Expression → Type 0
HasNothingNew y a b = (p : Expression) → IsNameOrRange p → Part b p → Part a p

abbrev own : Expression → Condition
own a = asking (λ n. Part a (Ident n)) (λ t u. Part a (Range t u))

own_parts : (a p : Expression) → Part a p → HoldsHere (own a) p
own_parts a (Ident n) i = i
own_parts a (Range t u) i = i
own_parts a (RepMin e j) i = (tt, tt)
own_parts a _ i = tt

stood_before : (a p : Expression) → IsNameOrRange p → HoldsHere (own a) p → Part a p
stood_before a (Ident n) k h = h
stood_before a (Range t u) k h = h
stood_before a _ k h = absurd k

module _ (R : Expression → Expression → Type 0)
    (here : (N : Text → Type 0) (B : Text → Text → Type 0) (a b : Expression) → R a b → Everywhere (asking N B) a → Everywhere (asking N B) b) where
  pub nothing_new : (y : RuleType) (a b : Expression) → Many R a b → HasNothingNew y a b
  nothing_new y a b m p k i =
      let root = here (λ n. Part a (Ident n)) (λ t u. Part a (Range t u)) in
      stood_before a p k (at_part (own a) (kept_along R (own a) root (λ c d w h x. tt) m (everywhere (own a) a (own_parts a))) i)

one_place : (g : Grammar) (y : RuleType) (a b : Expression) → Within (Rewrites g y) a b → HasNothingNew y a b
one_place g y a b w = nothing_new (Rewrites g y) (λ N B c d r. step_here N B r) y a b (one_step w no_step)

finishes_new : (y : RuleType) (a b : Expression) → Many Finishes a b → HasNothingNew y a b
finishes_new = nothing_new Finishes (λ N B c d r. finish_here N B r)

unrolls_new : (y : RuleType) (a b : Expression) → Many Unrolls a b → HasNothingNew y a b
unrolls_new = nothing_new Unrolls (λ N B c d r. step_here N B {g = []} {y = Normal} (by_unrolling r))

-- 3. in the rules that names mean
abbrev Follows : Grammar → Grammar → Type 0
Follows g h = (n : Text) → Matched HasNothingNew (rule_of g n) (rule_of h n)

before : {p q : Option Rule} {r : Rule} → Matched HasNothingNew p q → q ≡ Some r → (s : Rule) × (p ≡ Some s) × HasNothingNew r.type_of s.body r.body
before neither e = cc
before (two {r = s} {b = b} x) e = (s, refl, subst (λ r. HasNothingNew r.type_of s.body r.body) (same_some e) x)

module _ (g h : Grammar) (f : Follows g h) where
  reaches_to : {n k : Text} → Reaches h n k → Reaches g n k
  reaches_to itself = itself
  reaches_to (onward {j = j} {k = k} x i d) = let b = before (f j) i in onward (reaches_to x) b.1 (b.2 (Ident k) tt d)

  suffices_to : WrappersSuffice g → WrappersSuffice h
  suffices_to w = record {
    no_pop = λ n s x. w.no_pop n s (reaches_to x);
    no_pop_all = λ n s x. w.no_pop_all n s (reaches_to x);
  }

-- 4. wrappers suffice behind steps, and behind the listing and the wrappers
pub steps_suffice : (g h : Grammar) → Chain g h → WrappersSuffice g → WrappersSuffice h
steps_suffice g h done w = w
steps_suffice g h (step {h = i} s d) w =
    steps_suffice i h d (suffices_to g i (pairs HasNothingNew (λ y a p k x. x) (one_place g) s) w)

pub finished_suffice : (g h : Grammar) → Finished g h → WrappersSuffice g → WrappersSuffice h
finished_suffice g h e = suffices_to g h (each_pair HasNothingNew (each_body (λ y. Many Finishes) HasNothingNew finishes_new e))

-- 5. each name and range in a rule stood in some rule before
abbrev StandsIn : Grammar → Rule → Type 0
StandsIn g r = (p : Expression) → IsNameOrRange p → Part r.body p → InSomeRule g p

each_stands : (g : Grammar) {rs qs : Grammar} → EachBody HasNothingNew rs qs → All (StandsIn g) rs → All (StandsIn g) qs
each_stands g no_rules a = All-nil (StandsIn g)
each_stands g (also_rule {r = r} {rs = rs} x e) a =
    All-cons (StandsIn g) _ _ (λ p k i. All-head (StandsIn g) r rs a p k (x p k i)) (each_stands g e (All-tail (StandsIn g) r rs a))

pub stands_in : (g h : Grammar) → EachBody HasNothingNew g h → (p : Expression) → IsNameOrRange p → InSomeRule h p → InSomeRule g p
stands_in g h e p k i =
    let all = each_stands g e (each_rule (StandsIn g) g (λ r c p k j. (r, c, j))) in
    All-contains (StandsIn g) h i.0 all i.1 p k i.2

-- 6. so what such changes keep is kept along steps, and by the listing and the wrappers
same_bodies : (rs : Grammar) → EachBody HasNothingNew rs rs
same_bodies [] = no_rules
same_bodies (r ∷ rs) = also_rule {b = r.body} (λ p k i. i) (same_bodies rs)

one_body : {g rs qs : Grammar} → Changed g rs qs → EachBody HasNothingNew rs qs
one_body {g} (this {r = r} {rs = rs} w) = also_rule (one_place g r.type_of _ _ w) (same_bodies rs)
one_body (later {r = r} c) = also_rule {b = r.body} (λ p k i. i) (one_body c)

module _ (P : Grammar → Type 0) (keeps : (g h : Grammar) → EachBody HasNothingNew g h → P g → P h) where
  kept_by_steps : (g h : Grammar) → Chain g h → P g → P h
  kept_by_steps g h done x = x
  kept_by_steps g h (step {h = i} s d) x = kept_by_steps i h d (keeps g i (one_body s) x)

  pub kept_by_all : (g reached answer : Grammar) → Chain g reached → Finished reached answer → P g → P answer
  kept_by_all g reached answer c f x =
      keeps reached answer (each_body (λ y. Many Finishes) HasNothingNew finishes_new f) (kept_by_steps g reached c x)

  pub kept_by_unrolling : (g h : Grammar) → AreWrittenOut g h → P g → P h
  kept_by_unrolling g h w x = keeps g h (each_body (λ y. IsUnrolling) HasNothingNew (λ y a b u. unrolls_new y a b u.steps) w) x
