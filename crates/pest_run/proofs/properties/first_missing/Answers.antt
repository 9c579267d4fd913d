use Rattle.std.proofs.Common.{sym}
use Rattle.pest_run.proofs.properties.first_missing.Goals as goal

pub returns-in-Some : goal.returns-in-Some
returns-in-Some c = (c.loop-finding.finding-index, c.finding-item.result, c.loop-finding-test.true, sym c.finding-item.is, c.in-Some.ensures)
