use Rattle.std.proofs.Common.{◌≡◌, ◌++◌, length}
use Rattle.base_ast.specs.Ast.{text_of}
use Rattle.front_optimizer.specs.Joined.{in_order}
use Rattle.front_optimizer.proofs.joined.concatenate_texts.Given as goal

abbrev pub invariant-parts : goal.invariant-parts
invariant-parts l = text_of l.text ++ in_order l.parts.items ≡ in_order l.fn.texts.items

abbrev pub decreases-parts : goal.decreases-parts
decreases-parts l = length l.parts.items
