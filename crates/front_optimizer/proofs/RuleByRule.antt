-- A pass over all rules.
use Rattle.std.proofs.Common.{◌≡◌, [], ◌∷◌, ◌++◌, refl, sym, ap, ap₂, subst, append_assoc, Result, Ok, Err, IfOk}
use Rattle.std.specs.Prelude.{IsOkAnd}
use Rattle.base_language.specs.Language.Expression.{Expression, RuleType, Rule, Grammar}
use Rattle.base_language.specs.Rewritings.Rewriting.{EachBody, no_rules, also_rule}

pub same_parts : (r q : Rule) → q.name ≡ r.name → q.type_of ≡ r.type_of → q ≡ record r { body = q.body }
same_parts r q e f = ap₂ (λ n t. record { name = n; type_of = t; body = q.body }) e f

-- the rules so far, and those that are left
pub record SoFar (P : RuleType → Expression → Expression → Type 0) (all done rest : Grammar) : Type 0 where
  pub finished : (qs : Grammar) → EachBody P rest qs → EachBody P all (done ++ qs)

module _ (P : RuleType → Expression → Expression → Type 0) where
  pub none_so_far : (all : Grammar) → SoFar P all [] all
  none_so_far all = record { finished = λ qs e. e }

  pub one_more : {all done rest : Grammar} {r : Rule} {b : Expression} → SoFar P all done (r ∷ rest) → P r.type_of r.body b → SoFar P all (done ++ (record r { body = b } ∷ [])) rest
  one_more {all} {done} {rest} {r} {b} s x = record {
    finished = λ qs e. subst (EachBody P all) (sym (append_assoc done (record r { body = b } ∷ []) qs)) (s.finished (record r { body = b } ∷ qs) (also_rule x e));
  }

  append-none : (g : Grammar) → g ++ [] ≡ g
  append-none [] = refl
  append-none (r ∷ g) = ap (λ h. r ∷ h) (append-none g)

  pub all_done : {all done : Grammar} → SoFar P all done [] → EachBody P all done
  all_done {all} {done} s = subst (EachBody P all) (append-none done) (s.finished [] no_rules)

-- what is so of an answer so far is so of it with one more, where there is one
pub with_one_more : {A E : Type 0} {P Q : A → Type 0} {R : A → A → Type 0} (old new : Result A E) → IfOk old P → IfOk new (λ n. IsOkAnd old (λ o. R o n)) → ((o n : A) → P o → R o n → Q n) → IfOk new Q
with_one_more (Ok o) (Ok n) p r f = f o n p r
with_one_more (Err e) (Ok n) p r f = absurd r
with_one_more old (Err e) p r f = tt
