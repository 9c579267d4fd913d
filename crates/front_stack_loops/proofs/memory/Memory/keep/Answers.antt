use Rattle.front_stack_loops.proofs.KeyLemmas.{remembered}
use Rattle.front_stack_loops.proofs.memory.Memory.keep.Goals as goal

pub returns-in_ok-insert : goal.returns-in_ok-insert
returns-in_ok-insert c = λ meaning h e. record {
  known = remembered c.args.self.now.known c.insert.new.self meaning c.in-Some.key c.args.node c.args.stack c.args.reading c.in-Some.ensures c.in_ok-insert.ensures.updates.0 h.known e;
  movable = h.movable;
}
