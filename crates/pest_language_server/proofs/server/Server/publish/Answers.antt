use Rattle.std.proofs.Common.{sym}
use Rattle.pest_language_server.proofs.server.Server.publish.Goals as goal

pub returns-in_ok-body-in-Some-clause-sent : goal.returns-in_ok-body-in-Some-clause-sent
returns-in_ok-body-in-Some-clause-sent c = record { document = c.in-Some.document.now; is_open = sym c.in-Some.ensures; published = c.in_ok-body-in-Some.ensures }
