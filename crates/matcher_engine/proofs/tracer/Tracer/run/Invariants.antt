use Rattle.std.proofs.Common.{◌≡◌}
use Rattle.matcher_code.specs.Bytecodes.{lists_in}
use Rattle.matcher_code.specs.Steps.{steps}
use Rattle.matcher_engine.specs.Traces.{traced_config}
use Rattle.matcher_engine.proofs.tracer.Tracer.run.Given as goal

abbrev pub invariant-loop-taken : goal.invariant-loop-taken
invariant-loop-taken l =
    steps (lists_in l.code) l.text l.taken (traced_config (lists_in l.code) l.text l.fn.self l.fn.entry l.fn.from) ≡ traced_config (lists_in l.code) l.text l.self l.here l.place
