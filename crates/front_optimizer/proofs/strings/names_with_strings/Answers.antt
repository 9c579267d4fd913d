use Rattle.std.proofs.Common.{◌∙◌, subst, string_bytes}
use Rattle.std.specs.HashMap.{get_by_text}
use Rattle.std.specs.List.{All}
use Rattle.std.specs.Option.{IsSome}
use Rattle.std.specs.Map.Iter.{deref}
use Rattle.std.proofs.lemmas.List.Elements.{All-nil, All-push, All-weaker, All-map}
use Rattle.std.proofs.lemmas.Map.Iter.{iter_end}
use Rattle.std.proofs.lemmas.Map.Views.{All-turn}
use Rattle.front_optimizer.proofs.NamesKnown.{KeyIsMet, all_told, nothing_met}
use Rattle.front_optimizer.proofs.strings.names_with_strings.Goals as goal

pub loop-name-init : goal.loop-name-init
loop-name-init c = ((λ g h. nothing_met _ c.new.ensures.empty g), All-nil _)

pub loop-name-preserved : goal.loop-name-preserved
loop-name-preserved c =
    let found = All-turn deref (λ k. IsSome (get_by_text c.args.bodies.now (string_bytes k))) _ _ _ _ _ _ _ c.keys-name-items.ensures.found (c.into_iter-name-iterator.ensures.into_iter_gives ∙ c.keys-name-items.ensures.rest) c.loop-name.yielded_by c.in-Some.is c.next.ensures.steps in (
      (λ g h. c.in_ok-look_through.ensures.right g h (c.loop-name.invariant.0 g h)),
      All-push (λ k. KeyIsMet c.look_through.new.names k.now) c.loop-name.yielded c.in-Some.name
          (All-weaker (λ k. KeyIsMet c.loop-name.names k.now) (λ k. KeyIsMet c.look_through.new.names k.now) (λ k i. c.in_ok-look_through.ensures.met.kept _ i) c.loop-name.yielded c.loop-name.invariant.1)
          (c.in_ok-look_through.ensures.met.here (λ h. let none = subst IsSome h found in cc)),
    )

pub returns : goal.returns
returns c =
    let e = (iter_end deref _ c.loop-name.yielded _ _ _ _ (c.into_iter-name-iterator.ensures.into_iter_gives ∙ c.keys-name-items.ensures.rest) c.loop-name.yielded_by c.in-None.is c.next.ensures.steps).0 in
    let all = subst (All (KeyIsMet c.loop-name.names)) e (All-map (KeyIsMet c.loop-name.names) deref c.loop-name.yielded c.loop-name.invariant.1) in
    λ g h. all_told c.args.bodies.now c.loop-name.names _ all (λ q. rw c.keys-name-items.ensures.rest at (c.keys-name-items.ensures.has q)) g h (c.loop-name.invariant.0 g h)
