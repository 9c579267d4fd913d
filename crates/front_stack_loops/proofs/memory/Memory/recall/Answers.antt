use Rattle.std.proofs.Common.{◌≡◌, ◌∙◌, sym, ap, true, rules}
use Rattle.base_graphs.specs.Least.{is_set_at}
use Rattle.front_stack_domain.specs.Stack.{unknown}
use Rattle.front_stack_domain.specs.Views.{stack_of}
use Rattle.front_stack_loops.specs.Apart.{moved}
use Rattle.front_stack_loops.proofs.memory.Memory.recall.Goals as goal

pub returns-in-Some : goal.returns-in-Some
returns-in-Some c = λ meaning h.
    let set : is_set_at c.args.self.now.apart.items c.args.node ≡ true = search rules in
    c.rebase.ensures ∙ ap (moved (stack_of c.args.stack)) (c.in-Some.ensures meaning h ∙ ap (meaning c.args.node) c.unknown.ensures)
    ∙ sym (h.movable c.args.node set unknown (stack_of c.args.stack))
