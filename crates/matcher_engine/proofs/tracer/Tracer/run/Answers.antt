use Rattle.std.proofs.Common.{◌≡◌, ◌≤◌, arith, refl, subst}
use Rattle.matcher_code.specs.Bytecodes.{lists_in}
use Rattle.matcher_code.specs.Steps.{apply_op, op_at}
use Rattle.matcher_machine.specs.Machines.{config}
use Rattle.matcher_engine.specs.Traces.{TracedFollows, traced_config}
use Rattle.matcher_engine.proofs.Dressing.{ends_as, step_more}
use Rattle.matcher_engine.proofs.tracer.Tracer.run.Goals as goal

pub loop-taken-preserved : goal.loop-taken-preserved
loop-taken-preserved c =
    let code = lists_in c.args.code.now in
    let text = c.args.text.now in
    let l = c.loop-taken in
    let here = traced_config code text l.self l.here l.place in
    let x : apply_op code text (op_at code text l.here) here ≡ traced_config code text c.step.new.self c.in-At.next c.in-At.to =
    subst (TracedFollows code text (op_at code text l.here) here c.step.new.self) c.in-At.is c.in_ok-next.ensures in
    step_more code text l.taken l.here l.place c.in-At.next c.in-At.to (traced_config code text c.args.self.now c.args.entry c.args.from) here c.step.new.self l.invariant refl x

pub returns : goal.returns
returns c =
    let code = lists_in c.args.code.now in
    let text = c.args.text.now in
    let l = c.loop-taken in
    let all : c.args.steps ≤ l.taken = omega (arith, c.loop-taken-test.false, l.auto.taken-end) in
    record {
      taken = l.taken;
      ends = ends_as code text c.args.steps l.taken l.here l.place (traced_config code text c.args.self.now c.args.entry c.args.from) l.self c.end_at.result l.invariant all
          (c.end_at.ensures text 0 0 (config code text l.self.machine l.here l.place) refl (omega arith));
    }
