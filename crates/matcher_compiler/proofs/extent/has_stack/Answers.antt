use Rattle.std.proofs.Common.{◌∙◌, sym}
use Rattle.matcher_compiler.specs.Extents.{has_stack}
use Rattle.matcher_compiler.proofs.Heft.{found_last, next_stack}
use Rattle.matcher_compiler.proofs.extent.has_stack.Goals as goal

pub returns-then-is_stack_form : goal.returns-then-is_stack_form
returns-then-is_stack_form c =
    found_last (has_stack c.args.form.now) _ _ c.in-Some.part c.in-Some.ensures.items c.parts.invariant (sym c.is_stack_form.ensures ∙ c.if-is_stack_form.true)

pub parts-preserved : goal.parts-preserved
parts-preserved c =
    next_stack (has_stack c.args.form.now) c.pop.new.self.items c.parts.waiting.items c.put_parts.new.waiting.items c.in-Some.part c.in-Some.ensures.items
    (c.in_ok-put_parts.ensures.stack (sym c.is_stack_form.ensures ∙ c.if-is_stack_form.false)) c.parts.invariant
