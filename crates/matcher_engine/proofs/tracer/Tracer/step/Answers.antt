use Rattle.std.proofs.Common.{◌≡◌, subst}
use Rattle.matcher_code.specs.Bytecodes.{lists_in}
use Rattle.matcher_code.specs.Steps.{op_at}
use Rattle.matcher_machine.specs.Machines.{Follows, config}
use Rattle.matcher_machine.proofs.Stopping.{if_ok}
use Rattle.matcher_engine.specs.Traces.{first, own_trace, frame_traces, trace_after, traces_after}
use Rattle.matcher_engine.proofs.Dressing.{follows}
use Rattle.matcher_engine.proofs.tracer.Tracer.step.Goals as goal

pub returns : goal.returns
returns c =
    let code = lists_in c.args.code.now in
    let text = c.args.text.now in
    let old = c.args.self.now in
    let t = c.record.new.self in
    let here = config code text old.machine c.args.pc c.args.at in
    let o = op_at code text c.args.pc in
    let ts = subst (λ x. frame_traces t ≡ traces_after x (own_trace old) (frame_traces old)) c.op_at.ensures c.in_ok-record.ensures.traces in
    let tr = subst (λ x. own_trace t ≡ trace_after x old.place here (first (frame_traces old)) (own_trace old)) c.op_at.ensures (c.in_ok-record.ensures.trace code text c.args.pc) in
    if_ok c.step_at.result (Follows code text o (config code text t.machine c.args.pc c.args.at) c.step_at.new.self) _
    (λ r h. follows code text o old (record t { machine = c.step_at.new.self }) c.args.pc c.args.at ts tr c.record.ensures.place r (subst (λ m. Follows code text o (config code text m c.args.pc c.args.at) c.step_at.new.self r) c.record.ensures.machine h)) c.step_at.ensures
