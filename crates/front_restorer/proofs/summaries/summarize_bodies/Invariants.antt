use Rattle.std.proofs.Common.{take, map}
use Rattle.front_restorer.specs.Bodies.{said_by}
use Rattle.front_restorer.specs.Summaries.{AreSummariesOf}
use Rattle.front_restorer.proofs.summaries.summarize_bodies.Given as goal

abbrev pub invariant-loop-body : goal.invariant-loop-body
invariant-loop-body l = AreSummariesOf l.names (map said_by (take l.body-index l.bodies)) (record { numbers = l.numbers; shares = l.shares })
