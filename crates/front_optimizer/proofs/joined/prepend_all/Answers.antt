use Rattle.std.proofs.Common.{◌∙◌, sym}
use Rattle.std.proofs.lemmas.List.{append_assoc}
use Rattle.base_ast.specs.Ast.{text_of}
use Rattle.front_optimizer.specs.Joined.{in_order}
use Rattle.front_optimizer.proofs.Concatenated.{in_order_last}
use Rattle.front_optimizer.proofs.joined.prepend_all.Goals as goal

pub parts-preserved : goal.parts-preserved
parts-preserved c =
    let so_far = rw (c.in-Some.ensures.items, in_order_last c.pop_back.new.self.items c.in-Some.part) at c.parts.invariant in
    rw c.in_ok-push_front.ensures.items (sym (append_assoc (in_order c.pop_back.new.self.items) (text_of c.in-Some.part) (in_order c.parts.all.items)) ∙ so_far)
