-- Continuation frames of the restorer, and the results of its steps.
use Rattle.std.specs.Prelude.{ℕ, ◌+◌, ◌*◌, List, [], ◌++◌, Bool, true, false, ◌&&◌, ◌||◌, if◌then◌else◌}
use Rattle.base_language.specs.Language.Text.{Text}
use Rattle.base_language.specs.Language.Expression as e
use Rattle.base_language.specs.Language.Expression.{Expression}
use Rattle.base_ast.specs.Ast.{text_of}
use Rattle.base_ast.specs.Optimized.{optimized_expression_of}
use Rattle.base_ast.specs.Rebuilding.{meaning_of, work_of}
use Rattle.base_ast.specs.declared.optimized.OptimizedExpr.{OptimizedExpr}
use Rattle.base_ast.specs.declared.rebuilt.Step.{Step}
use Rattle.front_restorer.specs.Calls.{names_in}
use Rattle.front_restorer.specs.Changing.{changes_by, restored_by, wrapped_by}
use Rattle.front_restorer.specs.Size.{size}
use Rattle.front_restorer.specs.declared.frames.RestorerFrame.{RestorerFrame}
use Rattle.front_restorer.specs.declared.frames.RestoredExpr.{RestoredExpr}
use Rattle.front_restorer.specs.declared.frames.FrameOperator.{FrameOperator}
use Rattle.front_restorer.specs.declared.frames.FrameOperator.TheVariants as sign

-- an expression, and whether it changes the stack
abbrev pub Flagged : Type 0
Flagged = Expression × Bool

abbrev pub flagged : RestoredExpr → Flagged
flagged r = (optimized_expression_of r.expr.value, r.changes)

-- an expression, with a wrapper or without one
abbrev pub wrapped_if : Bool → Expression → Expression
wrapped_if b x = if b then e.RestoreOnErr x else x

-- whether an operand that changes the stack gets a wrapper under a sign
abbrev pub is_wrapping : FrameOperator → Bool
is_wrapping sign.Opt = true
is_wrapping sign.Rep = true
is_wrapping sign.RepOnce = true
is_wrapping (sign.FirstOfChoice right) = true
is_wrapping (sign.SecondOfChoice left) = true
is_wrapping _ = false

-- `p`: the names that change the stack
module _ (p : Text → Bool) where
  -- an expression, once it is restored
  abbrev pub flagged_by : OptimizedExpr → Flagged
  flagged_by x = let r = restored_by p (optimized_expression_of x) in (r, changes_by p r)

  -- the restored whole of an operand that is restored and wrapped
  abbrev pub whole_of : FrameOperator → Expression → Expression
  whole_of sign.PosPred x = e.PosPred x
  whole_of sign.NegPred x = e.NegPred x
  whole_of sign.Opt x = e.Opt x
  whole_of sign.Rep x = e.Rep x
  whole_of sign.RepOnce x = e.RepOnce x
  whole_of sign.Push x = e.Push x
  whole_of (sign.NodeTag t) x = e.NodeTag x (text_of t)
  whole_of (sign.FirstOfSeq right) x = e.Seq x (restored_by p (optimized_expression_of right.value.value))
  whole_of (sign.FirstOfChoice right) x =
      e.Choice x (wrapped_by p (restored_by p (optimized_expression_of right.value.value)))
  whole_of (sign.SecondOfSeq left b) x = e.Seq (optimized_expression_of left.value.value) x
  whole_of (sign.SecondOfChoice left) x = e.Choice (optimized_expression_of left.value.value) x

  -- whether the whole changes the stack, by whether the operand does
  abbrev pub changes_around : FrameOperator → Bool → Bool
  changes_around sign.PosPred b = b
  changes_around sign.NegPred b = b
  changes_around sign.Push b = true
  changes_around (sign.NodeTag t) b = b
  changes_around (sign.FirstOfSeq right) b =
      b || changes_by p (restored_by p (optimized_expression_of right.value.value))
  changes_around (sign.SecondOfSeq left c) b = c || b
  changes_around _ b = false

  abbrev pub with_operand : FrameOperator → Flagged → Flagged
  with_operand s f = (whole_of s (wrapped_if (is_wrapping s && f.1) f.0), changes_around s f.1)

  abbrev pub filled_in : RestorerFrame → Flagged → Flagged
  filled_in a f = with_operand a.sign f

  -- the final result of a step
  abbrev pub step_as : Step OptimizedExpr RestorerFrame RestoredExpr → Flagged
  step_as step = meaning_of flagged_by flagged filled_in step

-- the names still to be visited under a sign, after those of the operand
abbrev pub names_beside : FrameOperator → List Text → List Text
names_beside (sign.FirstOfSeq right) ns = ns ++ names_in (optimized_expression_of right.value.value)
names_beside (sign.FirstOfChoice right) ns = ns ++ names_in (optimized_expression_of right.value.value)
names_beside _ ns = ns

abbrev pub names_around : RestorerFrame → List Text → List Text
names_around a ns = names_beside a.sign ns

abbrev pub names_to_meet : OptimizedExpr → List Text
names_to_meet x = names_in (optimized_expression_of x)

abbrev pub names_left : Step OptimizedExpr RestorerFrame RestoredExpr → List Text
names_left step = meaning_of names_to_meet (λ r. []) names_around step

-- a bound of the steps left in an expression, under a sign once the operand is restored, and in all
abbrev pub work_in : OptimizedExpr → ℕ
work_in x = 4 * size (optimized_expression_of x)

abbrev pub waits_of : FrameOperator → ℕ
waits_of (sign.FirstOfSeq right) = work_in right.value.value + 3
waits_of (sign.FirstOfChoice right) = work_in right.value.value + 3
waits_of _ = 1

abbrev pub waits_around : RestorerFrame → ℕ
waits_around a = waits_of a.sign

abbrev pub work_left : Step OptimizedExpr RestorerFrame RestoredExpr → ℕ
work_left step = work_of work_in waits_around step
