use Rattle.std.proofs.Common.{◌∙◌, sym, ap}
use Rattle.front_stack_domain.specs.Stack.{is_among}
use Rattle.front_stack_loops.specs.Following.{seen_stacks}
use Rattle.front_stack_domain.specs.Views.{stack_of}
use Rattle.front_stack_loops.proofs.Visited.{adds_new, adds_none}
use Rattle.front_stack_loops.proofs.visits.add.Goals as goal

pub returns-in_ok-push : goal.returns-in_ok-push
returns-in_ok-push c = adds_new _ _ c.args.stack c.in_ok-push.ensures.items

pub returns-else-not-is_among : goal.returns-else-not-is_among
returns-else-not-is_among c = adds_none c.args.stacks.now.items c.args.stack (sym (c.is_among.ensures ∙ ap (λ l. is_among (seen_stacks l) (stack_of c.args.stack)) c.deref.ensures.value) ∙ c.if-not-is_among.false)
