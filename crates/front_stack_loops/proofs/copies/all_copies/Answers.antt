use Rattle.std.proofs.Common.{refl}
use Rattle.front_stack_loops.specs.Table.{copies}
use Rattle.front_stack_loops.proofs.Work.{ended_value}
use Rattle.front_stack_loops.proofs.copies.all_copies.Goals as goal

pub returns-clause-all : goal.returns-clause-all
returns-clause-all c meaning = ended_value c.args.table.now.limit (meaning c.args.repeated.body) c.args.table.now.skips _ (copies c.args.repeated.counts.required c.args.repeated.counts.optional c.args.repeated.counts.endless) _ _ refl c.stands_alone.ensures
