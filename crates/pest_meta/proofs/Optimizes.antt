-- Rules without wrappers are optimized in some way.
use Rattle.std.proofs.Common.{[], ◌∷◌, refl, sym, subst}
use Rattle.std.specs.List.{All}
use Rattle.std.proofs.lemmas.List.Elements.{All-head, All-tail}
use Rattle.base_language.specs.Language.Expression.{Expression, RuleType, Normal, Silent, Atomic, CompoundAtomic, NonAtomic, Rule, Grammar}
use Rattle.base_language.specs.Rewritings.Listing.{listed}
use Rattle.base_language.specs.Rewritings.Rewriting.{EachBody, no_rules, also_rule, IsDone, Rotates, SkipsUntil, Joins}
use Rattle.base_language.specs.Rewritings.Wrapping.{RestoresTo}
use Rattle.base_language.proofs.SomeRule.{each_rule}
use Rattle.base_ast.specs.declared.ast.RuleType.TheVariants as is
use Rattle.front_restorer.specs.Changing.{HasNoWrappers}
use Rattle.front_restorer.specs.Restoring.{HaveNoWrappers, restored_rules_by}
use Rattle.front_restorer.proofs.Restoring.{rules_same}
use Rattle.front_optimizer.specs.Bodies.{SkippedHere}
use Rattle.front_optimizer.specs.Here.{Exhausted, joined_here, unrolled_here}
use Rattle.front_optimizer.specs.Passes.{IsFactoring, IsOptimized, IsOptimizedBody, IsUnrolling}
use Rattle.front_optimizer.specs.Unrolled.{IsUnrolled}
use Rattle.pest_meta.proofs.Bare.{Bare, bare, no_wrappers, by_rotations, by_skips, by_unrollings, by_joins, by_factors, by_listing}
use Rattle.pest_meta.proofs.ChangesDecided.{changers}
use Rattle.front_optimizer.proofs.Composed.{optimized}
use Rattle.pest_meta.proofs.EachNode.{turns, skips, factors}
use Rattle.front_optimizer.proofs.Factoring as factoring
use Rattle.pest_meta.proofs.FromAbove.{goes_down}
use Rattle.pest_meta.proofs.FromBelow.{goes_up}
use Rattle.front_optimizer.proofs.Joining as joining
use Rattle.pest_meta.proofs.RestoresAll.{restores}
use Rattle.front_optimizer.proofs.Rotating as rotating
use Rattle.front_optimizer.proofs.Skipping as skipping
use Rattle.front_optimizer.proofs.Unrolled as unrolled
use Rattle.front_optimizer.proofs.Unrolling as unrolling

-- a pass has a result for an expression
record Ends (P : Expression → Expression → Type 0) (a : Expression) : Type 0 where
  end : Expression
  done : P a end

rotates : (a : Expression) → Bare a → Ends (IsDone Rotates) a
rotates a u = let d = goes_down (Exhausted Rotates) turns a u in record { end = d.end; done = rotating.rotated d.down }

skips_in : (g : Grammar) (y : RuleType) (a : Expression) → Bare a → Ends (IsDone (SkipsUntil g y)) a
skips_in g Atomic a u = let d = goes_down (SkippedHere g) (skips g) a u in record { end = d.end; done = skipping.all_done g d.down }
skips_in g Normal a u = record { end = a; done = skipping.nothing_done g is.Normal a (λ h. cc) }
skips_in g Silent a u = record { end = a; done = skipping.nothing_done g is.Silent a (λ h. cc) }
skips_in g CompoundAtomic a u = record { end = a; done = skipping.nothing_done g is.CompoundAtomic a (λ h. cc) }
skips_in g NonAtomic a u = record { end = a; done = skipping.nothing_done g is.NonAtomic a (λ h. cc) }

unrolls : (a : Expression) → Bare a → Ends IsUnrolling a
unrolls a u =
    let d = goes_up unrolling.Unrolled (λ m. (unrolled_here m, refl)) a u in
    record { end = d.end; done = record { steps = unrolling.reached d.up; unrolled = unrolling.unrolled d.up } }

joins_in : (y : RuleType) (a : Expression) → Bare a → Ends (IsDone (Joins y)) a
joins_in Atomic a u = let d = goes_up joining.Joined (λ m. (joined_here m, refl)) a u in record { end = d.end; done = joining.all_joined d.up }
joins_in Normal a u = record { end = a; done = joining.nothing_joined is.Normal a (λ h. cc) }
joins_in Silent a u = record { end = a; done = joining.nothing_joined is.Silent a (λ h. cc) }
joins_in CompoundAtomic a u = record { end = a; done = joining.nothing_joined is.CompoundAtomic a (λ h. cc) }
joins_in NonAtomic a u = record { end = a; done = joining.nothing_joined is.NonAtomic a (λ h. cc) }

factors_in : (y : RuleType) (a : Expression) → Bare a → Ends (IsFactoring y) a
factors_in y a u =
    let d = goes_down (factoring.Factored y) (factors y) a u in
    record { end = d.end; done = record { steps = factoring.reached y d.down; each_once = d.down } }

body : (g : Grammar) (y : RuleType) (a : Expression) → Bare a → Ends (IsOptimizedBody g y) a
body g y a u =
    let r = rotates a u in
    let of_rotated = by_rotations r.done.reached u in
    let s = skips_in g y r.end of_rotated in
    let of_skipped = by_skips s.done.reached of_rotated in
    let n = unrolls s.end of_skipped in
    let of_unrolled = by_unrollings n.done.steps of_skipped in
    let j = joins_in y n.end of_unrolled in
    let of_joined = by_joins j.done.reached of_unrolled in
    let f = factors_in y j.end of_joined in
    let of_factored = by_factors f.done.steps of_joined in
    record {
      end = listed f.end;
      done = record {
        rotated = r.end;
        skipped = s.end;
        unrolled = n.end;
        joined = j.end;
        factored = f.end;
        rotates = r.done;
        skips = s.done;
        unrolls = n.done;
        joins = j.done;
        factors = f.done;
        lists = refl;
        bare = no_wrappers (listed f.end) (by_listing f.end of_factored);
      };
    }

abbrev HasBareBody : Rule → Type 0
HasBareBody r = HasNoWrappers r.body

-- the listing of all rules
record Lists (g rules : Grammar) : Type 0 where
  listing : Grammar
  each : EachBody (IsOptimizedBody g) rules listing

lists : (g rules : Grammar) → All HasBareBody rules → Lists g rules
lists g [] h = record { listing = []; each = no_rules }
lists g (r ∷ rules) h =
    let b = body g r.type_of r.body (bare r.body (All-head HasBareBody r rules h)) in
    let l = lists g rules (All-tail HasBareBody r rules h) in
    record { listing = record r { body = b.end } ∷ l.listing; each = also_rule b.done l.each }

nothing_counted : (g : Grammar) (y : RuleType) (a b : Expression) → IsOptimizedBody g y a b → IsUnrolled b
nothing_counted g y a b p =
    subst IsUnrolled (sym p.lists) (unrolled.by_listing p.factored (unrolled.by_factors p.factors.steps (unrolled.by_joins p.joins.reached p.unrolls.unrolled)))

restored : (g h : Grammar) {rules listing : Grammar} → EachBody (IsOptimizedBody g) rules listing → EachBody (λ y. RestoresTo h) listing (restored_rules_by (changers h) listing)
restored g h no_rules = no_rules
restored g h (also_rule {r = r} {b = b} p e) =
    also_rule {r = record r { body = b }} (restores h b (bare b p.bare) (nothing_counted g r.type_of r.body b p)) (restored g h e)

pub optimizes : (rules : Grammar) → HaveNoWrappers rules → (answer : Grammar) × IsOptimized rules answer
optimizes rules h =
    let l = lists rules rules (each_rule HasBareBody rules (λ r c e k. h e (r, c, k))) in
    let answer = restored_rules_by (changers l.listing) l.listing in
    (answer, optimized rules l.listing answer l.each (restored rules l.listing l.each) (rules_same (changers l.listing) l.listing))
