use Rattle.std.proofs.Common.{sym, subst}
use Rattle.front_stack_loops.specs.Table.{AreOrderedParts}
use Rattle.front_stack_loops.proofs.Parts.{parts_lie}
use Rattle.front_stack_loops.proofs.table.Table.parts_at.Goals as goal

pub returns-clause-parts : goal.returns-clause-parts
returns-clause-parts c = record { node = c.node_at.result; at = c.node_at.ensures; parts = sym c.parts.ensures }

pub returns-clause-ordered : goal.returns-clause-ordered
returns-clause-ordered c = λ h. subst (AreOrderedParts c.args.self.now c.args.node) (sym c.parts.ensures) (parts_lie c.args.self.now c.args.node c.node_at.result.kind (h c.args.node c.node_at.result c.node_at.ensures))
