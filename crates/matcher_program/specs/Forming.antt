-- Continuation frames of the compiler: the operator around an operand while its form is made.
use Rattle.std.specs.Prelude.{ℕ, ◌+◌, ◌*◌, List, [], ◌∷◌, ◌++◌, ⊤}
use Rattle.std.specs.Borrow.{Bor}
use Rattle.base_language.specs.Language.Text.{Text}
use Rattle.base_language.specs.Language.Expression as spec
use Rattle.base_language.specs.Language.Expression.{Expression, Grammar}
use Rattle.base_ast.specs.Ast.{text_of}
use Rattle.base_ast.specs.Optimized.{optimized_expression_of}
use Rattle.base_ast.specs.Rebuilding.{GoesOn, meaning_of, work_of}
use Rattle.base_ast.specs.Weight.{weight}
use Rattle.base_ast.specs.declared.optimized.OptimizedExpr.{OptimizedExpr}
use Rattle.base_ast.specs.declared.rebuilt.Step.{Step}
use Rattle.base_ast.specs.declared.rebuilt.Step.TheVariants as is
use Rattle.matcher_program.specs.Compiled.{names_in}
use Rattle.matcher_program.specs.Programs.{IsBound, expression_of}
use Rattle.matcher_program.specs.Refusals.{IsWithin}
use Rattle.matcher_program.specs.declared.form.Form.{Form}
use Rattle.matcher_program.specs.declared.form.Property.{Property}
use Rattle.matcher_program.specs.declared.forms.CompilerFrame.{CompilerFrame}
use Rattle.matcher_program.specs.declared.forms.CompilerFrame.TheVariants as around

-- an expression of code, as one of the definitions
abbrev pub said : Bor OptimizedExpr → Expression
said e = optimized_expression_of e.now

-- an operand inside the operator of its frame, where the rules have these names
abbrev pub with_operand : List Text → CompilerFrame → Expression → Expression
with_operand names around.PosPred x = spec.PosPred x
with_operand names around.NegPred x = spec.NegPred x
with_operand names around.Opt x = spec.Opt x
with_operand names around.Rep x = spec.Rep x
with_operand names around.RepOnce x = spec.RepOnce x
with_operand names around.Push x = spec.Push x
with_operand names around.Restore x = spec.RestoreOnErr x
with_operand names (around.Tag t) x = spec.NodeTag x (text_of t)
with_operand names (around.FirstOfSeq right) x = spec.Seq x (optimized_expression_of right.now.value)
with_operand names (around.FirstOfChoice right) x = spec.Choice x (optimized_expression_of right.now.value)
with_operand names (around.SecondOfSeq left) x = spec.Seq (expression_of names left.value.value) x
with_operand names (around.SecondOfChoice left) x = spec.Choice (expression_of names left.value.value) x

-- the result of a step, as an expression
abbrev pub comes_of : List Text → Step (Bor OptimizedExpr) CompilerFrame Form → Expression
comes_of names step = meaning_of said (expression_of names) (with_operand names) step

-- how much there is to be done
abbrev pub size : Bor OptimizedExpr → ℕ
size e = 4 * weight (said e)

abbrev pub waits_of : CompilerFrame → ℕ
waits_of (around.FirstOfSeq right) = 4 * weight (optimized_expression_of right.now.value) + 3
waits_of (around.FirstOfChoice right) = 4 * weight (optimized_expression_of right.now.value) + 3
waits_of _ = 1

abbrev pub effort : Step (Bor OptimizedExpr) CompilerFrame Form → ℕ
effort step = work_of size waits_of step

-- the weight of expressions that wait
abbrev pub heft : List (Bor OptimizedExpr) → ℕ
heft [] = 0
heft (e ∷ es) = weight (said e) + heft es

module _ (g : Grammar) (ps : List Property) where
  -- the names in a form that waits mean what they are resolved to
  abbrev pub IsReady : CompilerFrame → Type 0
  IsReady (around.SecondOfSeq left) = IsBound g (names_in g) ps left.value.value
  IsReady (around.SecondOfChoice left) = IsBound g (names_in g) ps left.value.value
  IsReady _ = ⊤

  -- the names in the result of a step mean what they are resolved to
  abbrev pub IsSoundStep : Step (Bor OptimizedExpr) CompilerFrame Form → Type 0
  IsSoundStep (is.Made f) = IsBound g (names_in g) ps f
  IsSoundStep (is.Inside a e) = IsReady a

module _ (whole : Expression) where
  -- the operand that waits is part of the whole
  abbrev pub IsAroundWithin : CompilerFrame → Type 0
  IsAroundWithin (around.FirstOfSeq right) = IsWithin whole (optimized_expression_of right.now.value)
  IsAroundWithin (around.FirstOfChoice right) = IsWithin whole (optimized_expression_of right.now.value)
  IsAroundWithin _ = ⊤

  -- the operands in the result of a step are parts of the whole
  abbrev pub IsStepWithin : Step (Bor OptimizedExpr) CompilerFrame Form → Type 0
  IsStepWithin step = GoesOn (λ e. IsWithin whole (said e)) IsAroundWithin step

-- the names that an expression calls, from the left to the right
abbrev pub calls_of : Expression → List Text
calls_of (spec.Ident n) = n ∷ []
calls_of (spec.PosPred e) = calls_of e
calls_of (spec.NegPred e) = calls_of e
calls_of (spec.Seq a b) = calls_of a ++ calls_of b
calls_of (spec.Choice a b) = calls_of a ++ calls_of b
calls_of (spec.Opt e) = calls_of e
calls_of (spec.Rep e) = calls_of e
calls_of (spec.RepOnce e) = calls_of e
calls_of (spec.RepExact e i) = calls_of e
calls_of (spec.RepMin e i) = calls_of e
calls_of (spec.RepMax e i) = calls_of e
calls_of (spec.RepMinMax e i j) = calls_of e
calls_of (spec.Push e) = calls_of e
calls_of (spec.NodeTag e t) = calls_of e
calls_of (spec.RestoreOnErr e) = calls_of e
calls_of _ = []

-- the names that expressions call that wait, the last one first
abbrev pub calls_waiting : List (Bor OptimizedExpr) → List Text
calls_waiting [] = []
calls_waiting (e ∷ es) = calls_waiting es ++ calls_of (said e)

-- the name that an expression is, if it is one
abbrev pub own_call : Expression → List Text
own_call (spec.Ident n) = n ∷ []
own_call _ = []
