-- Kinds of operations.
use Rattle.std.specs.Prelude.{Bool, false, true}
use Rattle.matcher_code.specs.declared.code.Op.{Op}
use Rattle.matcher_code.specs.declared.code.Op.TheVariants as op

-- the operation is one on the stack
abbrev pub uses_stack : Op → Bool
uses_stack (op.Push next) = true
uses_stack (op.PushText text next) = true
uses_stack (op.Peek next fail) = true
uses_stack (op.Pop next fail) = true
uses_stack (op.Discard next fail) = true
uses_stack (op.PeekAll next fail) = true
uses_stack (op.PopAll next fail) = true
uses_stack (op.Slice from to next fail) = true
uses_stack _ = false
