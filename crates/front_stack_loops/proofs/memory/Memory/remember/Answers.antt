use Rattle.std.proofs.Common.{◌≡◌, ◌∙◌, sym, ap, true, rules}
use Rattle.std.proofs.lemmas.Result.{on_ok_weaker}
use Rattle.base_graphs.specs.Least.{is_set_at}
use Rattle.front_stack_domain.specs.Stack.{unknown}
use Rattle.front_stack_domain.specs.Views.{reading_of, stack_of}
use Rattle.front_stack_loops.specs.Apart.{moved}
use Rattle.front_stack_loops.specs.Memory.{IsRight, Meaning}
use Rattle.front_stack_loops.proofs.memory.Memory.remember.Goals as goal

pub returns : goal.returns
returns c =
    let set : is_set_at c.args.self.now.apart.items c.args.node ≡ true = search rules in
    let right : (meaning : Meaning) → IsRight meaning c.args.self.now → reading_of c.args.reading ≡ meaning c.args.node (stack_of c.args.stack) → reading_of c.rebase-kept.result ≡ meaning c.args.node (stack_of c.unknown-unknown.result) = λ meaning h e.
    c.rebase-kept.ensures ∙ ap (λ s. moved s (reading_of c.args.reading)) c.unknown-unknown.ensures ∙ ap (moved unknown) e
    ∙ sym (h.movable c.args.node set (stack_of c.args.stack) unknown) ∙ ap (meaning c.args.node) (sym c.unknown-unknown.ensures) in
    on_ok_weaker c.keep-2.result (λ kept meaning h e. kept meaning h (right meaning h e)) c.keep-2.ensures
