use Rattle.matcher_machine.proofs.Contextual.{own_run_in_context}
use Rattle.matcher_machine.proofs.laws.own_runs_go_the_same_way_in_contexts.Goals as goal

pub returns : goal.returns
returns c code text f = own_run_in_context code text f
