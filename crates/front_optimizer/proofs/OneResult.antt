-- Rules are optimized in one way at most.
use Rattle.std.proofs.Common.{◌≡◌, refl, sym, ◌∙◌, ap, subst, ◌∷◌}
use Rattle.base_language.specs.Language.Expression.{Expression, RuleType, Grammar}
use Rattle.base_language.specs.Rewritings.Listing.{EachListed, listed}
use Rattle.base_language.specs.Rewritings.Rewriting.{EachBody, no_rules, also_rule, IsDone, Joins, Rotates, SkipsUntil}
use Rattle.base_language.specs.Rewritings.Wrapping.{EachRestored, RestoresTo}
use Rattle.front_optimizer.specs.Passes.{IsFactoring, IsOptimized, IsUnrolling, Passes}
use Rattle.front_optimizer.proofs.OneFactoring.{one_factoring}
use Rattle.front_optimizer.proofs.OneJoining.{one_joining, one_skipping}
use Rattle.front_optimizer.proofs.OneRotation.{one_rotation}
use Rattle.front_optimizer.proofs.OneUnrolling.{one_unrolling}
use Rattle.front_optimizer.proofs.OneWrapping.{one_wrapping}

module _ (P : RuleType → Expression → Expression → Type 0) (one : (y : RuleType) (a b c : Expression) → P y a b → P y a c → b ≡ c) where
  each_once : {g h i : Grammar} → EachBody P g h → EachBody P g i → h ≡ i
  each_once no_rules no_rules = refl
  each_once (also_rule {r = r} {b = b} {qs = qs} p m) (also_rule {b = c} q n) =
      ap (λ x. record r { body = x } ∷ qs) (one r.type_of r.body b c p q) ∙ ap (λ rs. record r { body = c } ∷ rs) (each_once m n)

  -- from equal rules
  each_once_from : {f g h i : Grammar} → f ≡ g → EachBody P f h → EachBody P g i → h ≡ i
  each_once_from {h = h} e m n = each_once (subst (λ k. EachBody P k h) e m) n

pub passes_once : {rules h i : Grammar} → Passes rules h → Passes rules i → h ≡ i
passes_once {rules} p q =
    let a = each_once (λ y. IsDone Rotates) (λ y. one_rotation) p.rotates q.rotates in
    let b = each_once_from (λ y. IsDone (SkipsUntil rules y)) (one_skipping rules) a p.skips q.skips in
    let c = each_once_from (λ y. IsUnrolling) (λ y. one_unrolling) b p.unrolls q.unrolls in
    let d = each_once_from (λ y. IsDone (Joins y)) one_joining c p.joins q.joins in
    each_once_from IsFactoring one_factoring d p.factors q.factors

listed_once : {g h i j : Grammar} → g ≡ h → EachListed g i → EachListed h j → i ≡ j
listed_once = each_once_from (λ y a b. b ≡ listed a) (λ y a b c p q. p ∙ sym q)

restored_once : {g h i j : Grammar} → g ≡ h → EachRestored g i → EachRestored h j → i ≡ j
restored_once {h = h} {i = i} e p q = each_once (λ y. RestoresTo h) (λ y. one_wrapping h) (subst (λ k. EachRestored k i) e p) q

pub optimized_once : {rules h i : Grammar} → IsOptimized rules h → IsOptimized rules i → h ≡ i
optimized_once p q = restored_once (listed_once (passes_once p.passes q.passes) p.listed q.listed) p.restored q.restored
