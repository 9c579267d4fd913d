-- Continuation frames of the wrapping.
use Rattle.std.specs.Prelude.{◌≡◌, ℕ, ◌+◌, ◌*◌}
use Rattle.base_language.specs.Language.Expression.{Expression, Grammar, Rule}
use Rattle.base_ast.specs.Ast.{text_of}
use Rattle.base_ast.specs.Frames.{joined}
use Rattle.base_ast.specs.Optimized.{optimized_expression_of, optimized_rules_of}
use Rattle.base_ast.specs.OptimizedSigns.{under_sign}
use Rattle.base_ast.specs.Weight.{weight}
use Rattle.base_ast.specs.declared.optimized.shaped.PlainSign.TheVariants.{NodeTag}
use Rattle.base_ast.specs.declared.optimized.shaped.Sign.TheVariants.{Plain}
use Rattle.matcher_support.specs.Wrapped.{with_wrapper, wrapped}
use Rattle.matcher_support.specs.declared.tags.wrapped.Wrapping.{Wrapping}
use Rattle.matcher_support.specs.declared.tags.wrapped.WrappingFrame.{WrappingFrame}
use Rattle.matcher_support.specs.declared.tags.wrapped.WrappingFrame.TheVariants as frame

-- the expression and the wrappers as they are
abbrev pub made_of : Wrapping → Expression × Grammar
made_of w = (optimized_expression_of w.expr, optimized_rules_of w.wrappers.items)

-- the expression, wrapped
abbrev pub wrapped_of : Wrapping → Expression × Grammar
wrapped_of w = wrapped (optimized_expression_of w.expr) (optimized_rules_of w.wrappers.items)

-- a wrapped operand, with all wrappers so far, inside a frame
abbrev pub with_operand : WrappingFrame → Expression × Grammar → Expression × Grammar
with_operand (frame.Sign (Plain (NodeTag t))) w = with_wrapper (text_of t) w
with_operand (frame.Sign s) w = (under_sign s w.0, w.1)
with_operand (frame.First j right) w =
    let y = wrapped (optimized_expression_of right.value.value) w.1 in (joined j w.0 y.0, y.1)
with_operand (frame.Second j left) w = (joined j (optimized_expression_of left.value.value) w.0, w.1)

-- a bound of the steps left
abbrev pub size_of : Wrapping → ℕ
size_of w = 4 * weight (optimized_expression_of w.expr)

abbrev pub waits_of : WrappingFrame → ℕ
waits_of (frame.First j right) = 4 * weight (optimized_expression_of right.value.value) + 3
waits_of _ = 1

-- the rule is another one with its tags wrapped, and the wrappers are those from before and its own
abbrev pub IsWrapped : Rule → Grammar → Rule → Grammar → Type 0
IsWrapped r ws q more = let x = wrapped r.body ws in (q ≡ record r { body = x.0 }) × (more ≡ x.1)
