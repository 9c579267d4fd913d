use Rattle.std.proofs.Common.{arith}
use Rattle.matcher_code.specs.Bytecodes.{lists_in}
use Rattle.matcher_engine.proofs.Results.{run_failed, run_found, run_stopped, run_stuck}
use Rattle.matcher_engine.proofs.matcher.run_rule.Goals as goal

pub returns-in-Ok-Found : goal.returns-in-Ok-Found
returns-in-Ok-Found c = λ p exact is fusion n meant fresh asks.
    run_found p exact (lists_in c.args.code.now) is n c.args.number meant c.args.start c.whole_text-text.result.now c.pos.result c.whole_text-text.ensures c.pos.ensures c.whole_text-text.utf8 c.args.start.at_character c.args.machine.now c.run_with_memory.new.self fresh asks c.in-Some.entry c.saturating_mul-most.result c.in-Some.ensures c.in-Ok-Found.end
    (rw c.in-Ok-Found.field-0-is at c.in-Ok-Found.ensures fusion)

pub returns-in-Ok-Failed : goal.returns-in-Ok-Failed
returns-in-Ok-Failed c = λ p exact is fusion n meant fresh asks.
    run_failed p exact (lists_in c.args.code.now) is n c.args.number meant c.args.start c.whole_text-text.result.now c.pos.result c.whole_text-text.ensures c.pos.ensures c.whole_text-text.utf8 c.args.start.at_character c.args.machine.now c.run_with_memory.new.self fresh asks c.in-Some.entry c.saturating_mul-most.result c.in-Some.ensures
    (rw c.in-Ok-Failed.field-0-is at c.in-Ok-Failed.ensures fusion)

pub returns-then-most-steps : goal.returns-then-most-steps
returns-then-most-steps c = λ p exact is fusion n meant fresh asks.
    run_stopped p exact (lists_in c.args.code.now) is n c.args.number meant c.args.start c.whole_text-text.result.now c.pos.result c.whole_text-text.ensures c.pos.ensures c.whole_text-text.utf8 c.args.start.at_character c.args.machine.now c.run_with_memory.new.self fresh asks c.in-Some.entry c.saturating_mul-most.result c.in-Some.ensures c.args.steps (omega (arith, c.if-most-steps.true))
    (rw c.in-Ok-OutOfSteps.field-0-is at c.in-Ok-OutOfSteps.ensures fusion)

pub returns-in-Ok-Stuck : goal.returns-in-Ok-Stuck
returns-in-Ok-Stuck c = λ p exact is fusion n meant fresh asks.
    run_stuck p exact (lists_in c.args.code.now) is n c.args.number meant c.args.start c.whole_text-text.result.now c.pos.result c.whole_text-text.ensures c.pos.ensures c.whole_text-text.utf8 c.args.start.at_character c.args.machine.now c.run_with_memory.new.self fresh asks c.in-Some.entry c.saturating_mul-most.result c.in-Some.ensures c.args.steps
    (rw c.in-Ok-Stuck.field-0-is at c.in-Ok-Stuck.ensures fusion)
