use Rattle.std.proofs.Common.{◌≡◌, [], rules, subst, sym, All}
use Rattle.std.proofs.lemmas.List.Elements.{All-push}
use Rattle.server_requests.specs.Shown.{shown}
use Rattle.server_features.specs.Earlier.{IsMove}
use Rattle.server_features.proofs.earlier.push_move.Goals as goal

pub returns-in_ok-push : goal.returns-in_ok-push
returns-in_ok-push c = λ before.
    let P = IsMove c.args.earlier.now c.args.text.now in
    let same : shown c.args.earlier.now c.args.from ≡ shown c.args.text.now c.in-Some.to.now = search rules in
    let some : shown c.args.earlier.now c.args.from ≡ [] → ⊥ = search rules in
    subst (All P) (sym c.in_ok-push.ensures.items) (All-push P _ _ before (same, some))
