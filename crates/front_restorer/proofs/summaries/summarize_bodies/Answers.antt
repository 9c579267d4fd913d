use Rattle.std.proofs.Common.{◌≡◌, ◌+◌, ◌∙◌, ◌++◌, ◌∷◌, [], ap, sym, map, take, get_or}
use Rattle.std.proofs.lemmas.List.{map-append, take_more}
use Rattle.front_restorer.specs.Bodies.{said_by}
use Rattle.front_restorer.proofs.Looking.{one_more}
use Rattle.front_restorer.proofs.summaries.summarize_bodies.Goals as goal

pub loop-body-preserved : goal.loop-body-preserved
loop-body-preserved c =
    let bs = c.args.bodies.now in
    let i = c.loop-body.body-index in
    let d = c.body-item.result in
    let more : map said_by (take (i + 1) bs) ≡ map said_by (take i bs) ++ said_by d ∷ []
    = ap (map said_by) (take_more bs i d c.loop-body-test.true) ∙ (map-append said_by (take i bs) (get_or bs i d ∷ []) ∙ ap (λ b. map said_by (take i bs) ++ said_by b ∷ []) (sym c.body-item.is)) in
    rw more (one_more c.args.names.now (map said_by (take i bs)) (record { numbers = c.loop-body.numbers; shares = c.loop-body.shares }) (record { numbers = c.summarize.new.numbers; shares = c.push.new.self }) (said_by d) c.in_ok-share.share c.loop-body.invariant c.in_ok-push.ensures.items c.in_ok-share.ensures.kept c.in_ok-share.ensures.noted)
