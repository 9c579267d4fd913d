use Rattle.std.proofs.Common.{◌≡◌, subst, sym}
use Rattle.matcher_machine.specs.Machines.{config}
use Rattle.matcher_engine.specs.Traces.{first, own_trace, frame_traces, trace_after}
use Rattle.matcher_engine.proofs.tracer.Tracer.record.Goals as goal

pub returns-in-Ahead-clause-trace : goal.returns-in-Ahead-clause-trace
returns-in-Ahead-clause-trace c = λ code text pc.
    let t = c.args.self.now in
    subst (λ o. own_trace c.pop_lookahead.new.self ≡ trace_after o t.place (config code text t.machine pc c.args.at) (first (frame_traces t)) (own_trace t)) (sym c.in-Ahead.is)
    (c.pop_lookahead.ensures.trace code text pc c.args.at 0)
