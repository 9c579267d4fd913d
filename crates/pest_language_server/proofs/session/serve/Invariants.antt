use Rattle.std.proofs.Common.{ℕ}
use Rattle.pest_language_server.specs.Sessions.{Serves}
use Rattle.pest_language_server.proofs.session.serve.Given as goal

abbrev pub invariant-loop : goal.invariant-loop
invariant-loop g l = (status : ℕ) → Serves l.server (g.R.Read.remaining l.input) (g.W.Write.contents l.out) status
    → Serves l.initial.server (g.R.Read.remaining l.initial.input) (g.W.Write.contents l.initial.out) status
