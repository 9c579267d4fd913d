use Rattle.pest_language_server.specs.Sessions.{ends}
use Rattle.pest_language_server.proofs.session.serve.Goals as goal

pub returns-in-Err : goal.returns-in-Err
returns-in-Err g c = c.loop.invariant _ (ends _ _ _)

pub returns : goal.returns
returns g c = c.loop.invariant _ (ends _ _ _)
