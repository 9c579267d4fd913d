use Rattle.std.proofs.Common.{map, subst}
use Rattle.std.proofs.lemmas.Result.{IfOk-weaker}
use Rattle.front_restorer.specs.Bodies.{said_by, grammar_with}
use Rattle.front_restorer.specs.KnownChanges.{KnowsChanges}
use Rattle.front_restorer.proofs.Holding.{tells_moved}
use Rattle.front_restorer.proofs.restorer.changes_in_map.Goals as goal

pub returns : goal.returns
returns c =
    let bs = map said_by c.in_ok-bodies.bodies.items in
    IfOk-weaker c.changes_of.result _ _
    (λ changes t g h. tells_moved changes bs g (c.in_ok-bodies.ensures g h) (subst (λ ds. KnowsChanges changes (grammar_with (map said_by ds))) c.deref.ensures.value t)) c.changes_of.ensures.tells
