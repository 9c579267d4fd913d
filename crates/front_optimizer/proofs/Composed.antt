-- The passes over each rule are passes over all rules, and a chain of steps that keeps the outcomes.
use Rattle.std.proofs.Common.{◌≡◌, ◌∷◌, Result, Ok, Err, IfOk}
use Rattle.base_language.specs.Language.Expression.{Expression, RuleType, Grammar}
use Rattle.base_language.specs.Rewritings.Rewriting.{EachBody, no_rules, also_rule, IsDone, Many, Rotates, SkipsUntil, Joins, Rewrites, by_skipping, Chain, done, step}
use Rattle.base_language.proofs.StepsKeepOutcomes.{each_body, keeps}
use Rattle.base_language.proofs.PassesAreChains.{pass}
use Rattle.base_language.proofs.Replacing.{many, rotations_chain, unrollings_chain, joinings_chain, factorings_chain}
use Rattle.base_language.specs.Rewritings.Listing.{listed}
use Rattle.base_language.specs.Rewritings.Wrapping.{EachRestored}
use Rattle.front_restorer.specs.Restoring.{AreSameErased}
use Rattle.front_optimizer.proofs.Wrapped.{all_bare, erased_listing}
use Rattle.front_optimizer.specs.Passes.{IsUnrolling, IsFactoring, IsOptimizedBody, Passes, IsOptimized}

-- one relation and then another
pub record Then (P Q : RuleType → Expression → Expression → Type 0) (y : RuleType) (a c : Expression) : Type 0 where
  pub middle : Expression
  pub first : P y a middle
  pub second : Q y middle c

pub record Between (P Q : RuleType → Expression → Expression → Type 0) (g i : Grammar) : Type 0 where
  pub middle : Grammar
  pub first : EachBody P g middle
  pub second : EachBody Q middle i

module _ (P Q : RuleType → Expression → Expression → Type 0) where
  pub between : {g i : Grammar} → EachBody (Then P Q) g i → Between P Q g i
  between no_rules = record { middle = _; first = no_rules; second = no_rules }
  between (also_rule {r = r} t e) =
      let b = between e in
      record {
        middle = record r { body = t.middle } ∷ b.middle;
        first = also_rule t.first b.first;
        second = also_rule {r = record r { body = t.middle }} t.second b.second;
      }

and_then : {g h i : Grammar} → Chain g h → Chain h i → Chain g i
and_then done d = d
and_then (step s c) d = step s (and_then c d)

abbrev Rotating : RuleType → Expression → Expression → Type 0
Rotating y = IsDone Rotates

abbrev Unrolling : RuleType → Expression → Expression → Type 0
Unrolling y = IsUnrolling

abbrev Skipping : Grammar → RuleType → Expression → Expression → Type 0
Skipping rules y = IsDone (SkipsUntil rules y)

abbrev Joining : RuleType → Expression → Expression → Type 0
Joining y = IsDone (Joins y)

abbrev Listing : RuleType → Expression → Expression → Type 0
Listing y a b = b ≡ listed a

abbrev Behind3 : RuleType → Expression → Expression → Type 0
Behind3 = Then IsFactoring Listing

abbrev Behind2 : RuleType → Expression → Expression → Type 0
Behind2 = Then Joining Behind3

abbrev Behind1 : RuleType → Expression → Expression → Type 0
Behind1 = Then Unrolling Behind2

abbrev Behind0 : Grammar → RuleType → Expression → Expression → Type 0
Behind0 rules = Then (Skipping rules) Behind1

one_behind_another : (rules : Grammar) (y : RuleType) (a b : Expression) → IsOptimizedBody rules y a b → Then Rotating (Behind0 rules) y a b
one_behind_another rules y a b p = record {
  middle = p.rotated;
  first = p.rotates;
  second = record {
    middle = p.skipped;
    first = p.skips;
    second = record {
      middle = p.unrolled;
      first = p.unrolls;
      second = record {
        middle = p.joined;
        first = p.joins;
        second = record { middle = p.factored; first = p.factors; second = p.lists };
      };
    };
  };
}

pub chain : {rules reached : Grammar} → Passes rules reached → Chain rules reached
chain {rules = rules} p =
    let rotating = rotations_chain (each_body Rotating _ (λ y a b d. d.reached) p.rotates) in
    let skipping : Chain p.rotated p.skipped =
    pass rotating (each_body (Skipping rules) (λ y. Many (Rewrites rules y)) (λ y a b d. many (SkipsUntil rules y) (Rewrites rules y) (λ c e s. by_skipping s) d.reached) p.skips) in
    and_then rotating
    (and_then skipping
    (and_then (unrollings_chain (each_body Unrolling _ (λ y a b d. d.steps) p.unrolls))
    (and_then (joinings_chain (each_body Joining _ (λ y a b d. d.reached) p.joins))
    (factorings_chain (each_body IsFactoring _ (λ y a b d. d.steps) p.factors)))))

pub optimized : (rules listing answer : Grammar) → EachBody (IsOptimizedBody rules) rules listing → EachRestored listing answer → AreSameErased listing answer → IsOptimized rules answer
optimized rules listing answer e restores same =
    let rotated = between Rotating (Behind0 rules) (each_body (IsOptimizedBody rules) (Then Rotating (Behind0 rules)) (one_behind_another rules) e) in
    let skipped = between (Skipping rules) Behind1 rotated.second in
    let unrolled = between Unrolling Behind2 skipped.second in
    let joined = between Joining Behind3 unrolled.second in
    let factored = between IsFactoring Listing joined.second in
    let passes : Passes rules factored.middle = record {
      rotated = rotated.middle;
      skipped = skipped.middle;
      unrolled = unrolled.middle;
      joined = joined.middle;
      rotates = rotated.first;
      skips = skipped.first;
      unrolls = unrolled.first;
      joins = joined.first;
      factors = factored.first;
    } in
    record {
      reached = factored.middle;
      listing = listing;
      passes = passes;
      chain = chain passes;
      outcomes = λ free. keeps _ _ free (chain passes);
      listed = factored.second;
      restored = restores;
      lists = erased_listing factored.second (all_bare rules e) same;
    }

pub answered_both : {A E : Type 0} {P Q S : A → Type 0} (r : Result A E) → ((a : A) → P a → Q a → S a) → IfOk r P → IfOk r Q → IfOk r S
answered_both (Ok a) f p q = f a p q
answered_both (Err e) f p q = p
