use Rattle.server_features.specs.Earlier.{IsMovedPart}
use Rattle.server_features.proofs.Staying.{all_more}
use Rattle.server_features.proofs.earlier.move_parts.Goals as goal

pub loop-part-preserved : goal.loop-part-preserved
loop-part-preserved c =
    let added = c.in_ok-push_part.ensures in
    all_more (IsMovedPart c.args.moves.now.earlier.now c.args.moves.now.text.now) c.args.parts.now c.loop-part.part-index c.part-item.result _ added.0 _
    c.loop-part-test.true c.part-item.is added.1 c.loop-part.invariant added.2
