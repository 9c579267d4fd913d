use Rattle.server_symbols.proofs.Nesting.{nest_if}
use Rattle.server_symbols.proofs.selection.selections_at.Goals as goal

pub returns-clause-nested : goal.returns-clause-nested
returns-clause-nested c = nest_if c.deref-2.result.now c.nest.result c.nest.ensures
