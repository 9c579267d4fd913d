use Rattle.std.proofs.Common.{◌∙◌, ap, arith}
use Rattle.front_stack_domain.specs.Views.{possible, stack_of}
use Rattle.front_stack_loops.specs.Repeating.{turned_reading}
use Rattle.front_stack_loops.proofs.Repeated.{goes_on_by}
use Rattle.front_stack_loops.proofs.Work.{where_ok}
use Rattle.front_stack_loops.proofs.copies.resume_turns.Goals as goal

pub returns : goal.returns
returns c = where_ok c.next_turn.result (λ q g. goes_on_by c.args.table.now _ _ _ _ _ _ _ _ _ _ _ q
    (λ meaning f. ap (turned_reading c.args.table.now meaning c.args.turn.turns (stack_of c.args.begun.stack) (possible c.args.reading.ok)) c.after_turn-turns.ensures ∙ f.made) (omega arith) g) c.next_turn.ensures
