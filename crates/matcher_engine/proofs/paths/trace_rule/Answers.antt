use Rattle.std.proofs.Common.{ℕ, ap₂, arith, subst, sym}
use Rattle.matcher_code.specs.Bytecodes.{lists_in}
use Rattle.matcher_machine.specs.Machines.{EndsIn}
use Rattle.matcher_machine.specs.declared.machine.Machine.{Machine}
use Rattle.matcher_engine.specs.Traces.{traced_config}
use Rattle.matcher_engine.specs.Runs.{IsFresh}
use Rattle.matcher_engine.proofs.Traced.{traced_failed, traced_found, traced_stopped, traced_stuck}
use Rattle.matcher_engine.proofs.paths.trace_rule.Goals as goal

pub returns-in-Ok-Found : goal.returns-in-Ok-Found
returns-in-Ok-Found c = λ p is n meant.
    let code = lists_in c.args.code.now in
    let text = c.whole_text-text.result.now in
    let old = c.new-tracer.result in
    let new = c.run.new.self in
    let f = subst IsFresh (sym c.new-tracer.ensures.machine) (record {
      frames = c.new-machine.ensures.frames;
      trees = c.new-machine.ensures.trees;
      pushed = c.new-machine.ensures.pushed;
      furthest = c.new-machine.ensures.furthest;
      names = c.new-machine.ensures.names;
    }) in
    let ends = EndsIn code text c.saturating_mul-most.result (traced_config code text old c.in-Some.entry c.pos.result) (traced_config code text new) in
    traced_found p code is n c.args.number meant c.args.start text c.pos.result c.whole_text-text.ensures c.pos.ensures c.whole_text-text.utf8 c.args.start.at_character old new c.args.asked f
    (ap₂ (λ (m : Machine) (p : ℕ). record c.args.asked { names = m.asked; attempts = p }) c.new-tracer.ensures.machine c.new-tracer.ensures.place) c.new-tracer.ensures.trace c.in-Some.entry c.saturating_mul-most.result c.in-Some.ensures
    _ (subst ends c.in-Ok-Found.field-0-is c.in-Ok-Found.ensures)

pub returns-in-Ok-Failed : goal.returns-in-Ok-Failed
returns-in-Ok-Failed c = λ p is n meant.
    let code = lists_in c.args.code.now in
    let text = c.whole_text-text.result.now in
    let old = c.new-tracer.result in
    let new = c.run.new.self in
    let f = subst IsFresh (sym c.new-tracer.ensures.machine) (record {
      frames = c.new-machine.ensures.frames;
      trees = c.new-machine.ensures.trees;
      pushed = c.new-machine.ensures.pushed;
      furthest = c.new-machine.ensures.furthest;
      names = c.new-machine.ensures.names;
    }) in
    let ends = EndsIn code text c.saturating_mul-most.result (traced_config code text old c.in-Some.entry c.pos.result) (traced_config code text new) in
    traced_failed p code is n c.args.number meant c.args.start text c.pos.result c.whole_text-text.ensures c.pos.ensures c.whole_text-text.utf8 c.args.start.at_character old new c.args.asked f
    (ap₂ (λ (m : Machine) (p : ℕ). record c.args.asked { names = m.asked; attempts = p }) c.new-tracer.ensures.machine c.new-tracer.ensures.place) c.new-tracer.ensures.trace c.in-Some.entry c.saturating_mul-most.result c.in-Some.ensures
    (subst ends c.in-Ok-Failed.field-0-is c.in-Ok-Failed.ensures)

pub returns-then-most-steps : goal.returns-then-most-steps
returns-then-most-steps c = λ p is n meant.
    let code = lists_in c.args.code.now in
    let text = c.whole_text-text.result.now in
    let old = c.new-tracer.result in
    let new = c.run.new.self in
    let f = subst IsFresh (sym c.new-tracer.ensures.machine) (record {
      frames = c.new-machine.ensures.frames;
      trees = c.new-machine.ensures.trees;
      pushed = c.new-machine.ensures.pushed;
      furthest = c.new-machine.ensures.furthest;
      names = c.new-machine.ensures.names;
    }) in
    let ends = EndsIn code text c.saturating_mul-most.result (traced_config code text old c.in-Some.entry c.pos.result) (traced_config code text new) in
    traced_stopped p code is n c.args.number meant c.args.start text c.pos.result c.whole_text-text.ensures c.pos.ensures c.whole_text-text.utf8 c.args.start.at_character old new c.args.asked f
    (ap₂ (λ (m : Machine) (p : ℕ). record c.args.asked { names = m.asked; attempts = p }) c.new-tracer.ensures.machine c.new-tracer.ensures.place) c.new-tracer.ensures.trace c.in-Some.entry c.saturating_mul-most.result c.in-Some.ensures
    c.args.steps (omega (arith, c.if-most-steps.true)) (subst ends c.in-Ok-OutOfSteps.field-0-is c.in-Ok-OutOfSteps.ensures)

pub returns-in-Ok-Stuck : goal.returns-in-Ok-Stuck
returns-in-Ok-Stuck c = λ p is n meant.
    let code = lists_in c.args.code.now in
    let text = c.whole_text-text.result.now in
    let old = c.new-tracer.result in
    let new = c.run.new.self in
    let f = subst IsFresh (sym c.new-tracer.ensures.machine) (record {
      frames = c.new-machine.ensures.frames;
      trees = c.new-machine.ensures.trees;
      pushed = c.new-machine.ensures.pushed;
      furthest = c.new-machine.ensures.furthest;
      names = c.new-machine.ensures.names;
    }) in
    let ends = EndsIn code text c.saturating_mul-most.result (traced_config code text old c.in-Some.entry c.pos.result) (traced_config code text new) in
    traced_stuck p code is n c.args.number meant c.args.start text c.pos.result c.whole_text-text.ensures c.pos.ensures c.whole_text-text.utf8 c.args.start.at_character old new c.args.asked f
    (ap₂ (λ (m : Machine) (p : ℕ). record c.args.asked { names = m.asked; attempts = p }) c.new-tracer.ensures.machine c.new-tracer.ensures.place) c.new-tracer.ensures.trace c.in-Some.entry c.saturating_mul-most.result c.in-Some.ensures
    c.args.steps (subst ends c.in-Ok-Stuck.field-0-is c.in-Ok-Stuck.ensures)
