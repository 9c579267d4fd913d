use Rattle.std.proofs.Common.{map}
use Rattle.front_restorer.specs.Bodies.{said_by}
use Rattle.front_restorer.proofs.Looking.{are_within}
use Rattle.front_restorer.proofs.Telling.{tells}
use Rattle.front_restorer.proofs.changes.changes_of.Goals as goal

pub find_changing_rules-requires : goal.find_changing_rules-requires
find_changing_rules-requires c = are_within c.in_ok-names.names (map said_by c.args.bodies.now) c.in_ok-noted.noted c.in_ok-noted.ensures

pub returns-clause-tells : goal.returns-clause-tells
returns-clause-tells c =
    tells (map said_by c.args.bodies.now) c.in_ok-names.names c.in_ok-noted.noted c.in_ok-names.ensures c.in_ok-noted.ensures c.in_ok-flags.flags.items c.in_ok-flags.ensures.closed c.in_ok-flags.ensures.sound
