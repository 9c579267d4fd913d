use Rattle.std.proofs.Common.{arith}
use Rattle.matcher_compiler.specs.Extents.{count_forms}
use Rattle.matcher_compiler.proofs.Heft.{next_count}
use Rattle.matcher_compiler.proofs.extent.count_forms.Goals as goal

pub parts-preserved : goal.parts-preserved
parts-preserved c =
    next_count (count_forms c.args.form.now) c.parts.count c.saturating_add-count.result c.pop.new.self.items c.parts.waiting.items c.put_parts.new.waiting.items
    c.in-Some.part c.in-Some.ensures.items c.in_ok-put_parts.ensures.count (omega arith) c.parts.invariant
