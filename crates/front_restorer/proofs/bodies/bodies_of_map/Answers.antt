use Rattle.std.proofs.Common.{◌≡◌, ◌∙◌, [], map, sym, subst, ap, ◌++◌}
use Rattle.std.proofs.lemmas.List.{append-nil}
use Rattle.std.proofs.lemmas.Map.Iter.{rest_all}
use Rattle.std.specs.Map.Iter.{deref_pair}
use Rattle.front_restorer.specs.Bodies.{said_by, grammar_with, SameBodies}
use Rattle.front_restorer.proofs.Holding.{of_entries}
use Rattle.front_restorer.proofs.bodies.bodies_of_map.Goals as goal

pub returns : goal.returns
returns c = λ g h.
    let m = c.args.rules.now in
    let left : c.loop-name.name-iterator ≡ [] = rest_all deref_pair c.loop-name.name-iterator c.next.new.self c.next.result c.in-None.is c.next.ensures.steps in
    let all : map said_by c.loop-name.bodies.items ≡ m.entries = sym (append-nil (map said_by c.loop-name.bodies.items)) ∙ (ap (λ es. map said_by c.loop-name.bodies.items ++ es) (sym left) ∙ c.loop-name.invariant) in
    subst (λ bs. SameBodies (grammar_with bs) g) (sym all) (λ n. sym (of_entries m.entries c.into_iter-name-iterator.ensures.into_iter_gives.4 n) ∙ h n)
