-- One more that stands around an operand, innermost, and one less, while a form is made.
use Rattle.std.proofs.Common.{◌≡◌, ◌+◌, ◌≤◌, ◌<◌, List, [], ◌∷◌, ◌++◌, Bor, ap, sym, subst, ◌∙◌, append-nil, append_assoc, arith}
use Rattle.std.specs.Prelude.{⊤}
use Rattle.base_language.specs.Language.Expression.{Expression, Grammar}
use Rattle.base_ast.specs.Rebuilding.{GoesOn, filled, waiting}
use Rattle.base_ast.proofs.Rebuilding.{AllReady, last_ready, right_inside, less_inside, less_outside, ready_inside, ready_outside, same_inside, same_outside}
use Rattle.base_ast.specs.declared.optimized.OptimizedExpr.{OptimizedExpr}
use Rattle.base_ast.specs.declared.rebuilt.Step.{Step}
use Rattle.base_ast.specs.declared.rebuilt.Step.TheVariants as is
use Rattle.base_ast.specs.Weight.{weight}
use Rattle.matcher_program.specs.Compiled.{names_in}
use Rattle.matcher_program.specs.Forming.{IsAroundWithin, IsReady, IsSoundStep, IsStepWithin, calls_of, calls_waiting, comes_of, effort, heft, said, size, waits_of, with_operand}
use Rattle.matcher_program.specs.Programs.{IsBound, expression_of}
use Rattle.matcher_program.specs.declared.form.Form.{Form}
use Rattle.matcher_program.specs.declared.form.Property.{Property}
use Rattle.matcher_program.specs.Refusals.{IsWithin}
use Rattle.matcher_program.specs.declared.forms.CompilerFrame.{CompilerFrame}
use Rattle.matcher_program.specs.declared.forms.CompilerFrame.TheVariants as around

module _ (g : Grammar) (ps : List Property) where
  abbrev AnyExpression : Bor OptimizedExpr → Type 0
  AnyExpression e = ⊤

  abbrev Stands : Step (Bor OptimizedExpr) CompilerFrame Form → List CompilerFrame → Type 0
  Stands step os = AllReady AnyExpression (IsReady g ps) step os

  -- what is at hand, inside what waits, is the whole; and names mean what they say in all of it
  pub record IsUnderWay (whole : Expression) (step : Step (Bor OptimizedExpr) CompilerFrame Form) (os : List CompilerFrame) : Type 0 where
    pub says : filled (with_operand (names_in g)) os (comes_of (names_in g) step) ≡ whole
    pub sound : IsSoundStep g ps step
    pub ready : Stands step os

  goes : (step : Step (Bor OptimizedExpr) CompilerFrame Form) → IsSoundStep g ps step → GoesOn AnyExpression (IsReady g ps) step
  goes (is.Made f) h = tt
  goes (is.Inside a e) h = (h, tt)

  -- an operand is gone into
  pub gone_inside : (whole : Expression) (step next : Step (Bor OptimizedExpr) CompilerFrame Form) (os ns : List CompilerFrame) (a : CompilerFrame) (e : Bor OptimizedExpr) → step ≡ is.Inside a e → ns ≡ os ++ (a ∷ []) → comes_of (names_in g) next ≡ said e → IsSoundStep g ps next → IsUnderWay whole step os → IsUnderWay whole next ns
  gone_inside whole step next os ns a e h i j sound w = record {
    says = same_inside said (expression_of (names_in g)) (with_operand (names_in g)) step next os ns a e whole h i j w.says;
    sound = sound;
    ready = ready_inside AnyExpression (IsReady g ps) step next os ns a e h i w.ready (goes next sound);
  }

  -- an operand has its form
  pub gone_outside : (whole : Expression) (step next : Step (Bor OptimizedExpr) CompilerFrame Form) (os ns : List CompilerFrame) (a : CompilerFrame) (f : Form) → step ≡ is.Made f → os ≡ ns ++ (a ∷ []) → (IsBound g (names_in g) ps f → comes_of (names_in g) next ≡ with_operand (names_in g) a (expression_of (names_in g) f)) → (IsReady g ps a → IsBound g (names_in g) ps f → IsSoundStep g ps next) → IsUnderWay whole step os → IsUnderWay whole next ns
  gone_outside whole step next os ns a f h i j k w =
      let bound : IsBound g (names_in g) ps f = subst (IsSoundStep g ps) h w.sound in
      let sound = k (last_ready AnyExpression (IsReady g ps) step os ns a i w.ready) bound in
      record {
        says = same_outside said (expression_of (names_in g)) (with_operand (names_in g)) step next os ns a f whole h i (j bound) w.says;
        sound = sound;
        ready = ready_outside AnyExpression (IsReady g ps) step next os ns a i w.ready (goes next sound);
      }

-- less is to be done
pub less_in : (step next : Step (Bor OptimizedExpr) CompilerFrame Form) (os ns : List CompilerFrame) (a : CompilerFrame) (e : Bor OptimizedExpr) → step ≡ is.Inside a e → ns ≡ os ++ (a ∷ []) → effort next ≤ size e → effort next + waiting waits_of ns < effort step + waiting waits_of os
less_in step next os ns a e h i j = less_inside size waits_of step next os ns a e h i j

pub less_out : (step next : Step (Bor OptimizedExpr) CompilerFrame Form) (os ns : List CompilerFrame) (a : CompilerFrame) (f : Form) → step ≡ is.Made f → os ≡ ns ++ (a ∷ []) → effort next < waits_of a → effort next + waiting waits_of ns < effort step + waiting waits_of os
less_out step next os ns a f h i j = less_outside size waits_of step next os ns a f h i j

-- one expression more that waits
pub heft-last : (es : List (Bor OptimizedExpr)) (e : Bor OptimizedExpr) → heft (es ++ (e ∷ [])) ≡ heft es + weight (said e)
heft-last [] e = omega arith
heft-last (d ∷ es) e = let rest = heft-last es e in omega arith

pub heavier : (es ds : List (Bor OptimizedExpr)) (e : Bor OptimizedExpr) → ds ≡ es ++ (e ∷ []) → heft ds ≡ heft es + weight (said e)
heavier es ds e h = ap heft h ∙ heft-last es e

-- the names that one expression more calls
calls-last : (es : List (Bor OptimizedExpr)) (e : Bor OptimizedExpr) → calls_waiting (es ++ e ∷ []) ≡ calls_of (said e) ++ calls_waiting es
calls-last [] e = sym (append-nil (calls_of (said e)))
calls-last (d ∷ es) e =
    ap (λ ns. ns ++ calls_of (said d)) (calls-last es e) ∙ append_assoc (calls_of (said e)) (calls_waiting es) (calls_of (said d))

pub calls_more : (es ds : List (Bor OptimizedExpr)) (e : Bor OptimizedExpr) → ds ≡ es ++ (e ∷ []) → calls_waiting ds ≡ calls_of (said e) ++ calls_waiting es
calls_more es ds e h = ap calls_waiting h ∙ calls-last es e

pub calls_both : (es ds cs : List (Bor OptimizedExpr)) (l r : Bor OptimizedExpr) → ds ≡ es ++ (r ∷ []) → cs ≡ ds ++ (l ∷ [])
    → calls_waiting cs ≡ (calls_of (said l) ++ calls_of (said r)) ++ calls_waiting es
calls_both es ds cs l r h i =
    calls_more ds cs l i ∙ (ap (λ ns. calls_of (said l) ++ ns) (calls_more es ds r h) ∙ sym (append_assoc (calls_of (said l)) (calls_of (said r)) (calls_waiting es)))

-- what stands in a part stands in the whole
around_within : (total part : Expression) → IsWithin total part → (a : CompilerFrame) → IsAroundWithin part a → IsAroundWithin total a
around_within total part w (around.FirstOfSeq right) h = λ x p. w x (h x p)
around_within total part w (around.FirstOfChoice right) h = λ x p. w x (h x p)
around_within total part w _ h = tt

step_within : (total part : Expression) → IsWithin total part → (step : Step (Bor OptimizedExpr) CompilerFrame Form) → IsStepWithin part step → IsStepWithin total step
step_within total part w (is.Made f) h = tt
step_within total part w (is.Inside a e) h = (around_within total part w a h.0, λ x p. w x (h.1 x p))

module _ (total : Expression) where
  -- what is at hand and what waits stands in the whole
  abbrev pub AreWithin : Step (Bor OptimizedExpr) CompilerFrame Form → List CompilerFrame → Type 0
  AreWithin step os = AllReady (λ e. IsWithin total (said e)) (IsAroundWithin total) step os

  pub operand_within : (step : Step (Bor OptimizedExpr) CompilerFrame Form) (os : List CompilerFrame) (a : CompilerFrame) (e : Bor OptimizedExpr) → step ≡ is.Inside a e → AreWithin step os → IsWithin total (said e)
  operand_within step os a e h w = right_inside (λ e. IsWithin total (said e)) (IsAroundWithin total) step os a e h w

  pub within_inside : (step next : Step (Bor OptimizedExpr) CompilerFrame Form) (os ns : List CompilerFrame) (a : CompilerFrame) (e : Bor OptimizedExpr) → step ≡ is.Inside a e → ns ≡ os ++ (a ∷ []) → IsStepWithin (said e) next → AreWithin step os → AreWithin next ns
  within_inside step next os ns a e h i n w =
      ready_inside (λ e. IsWithin total (said e)) (IsAroundWithin total) step next os ns a e h i w
      (step_within total (said e) (operand_within step os a e h w) next n)

  pub within_outside : (step next : Step (Bor OptimizedExpr) CompilerFrame Form) (os ns : List CompilerFrame) (a : CompilerFrame) → os ≡ ns ++ (a ∷ []) → (IsAroundWithin total a → IsStepWithin total next) → AreWithin step os → AreWithin next ns
  within_outside step next os ns a i n w =
      ready_outside (λ e. IsWithin total (said e)) (IsAroundWithin total) step next os ns a i w
      (n (last_ready (λ e. IsWithin total (said e)) (IsAroundWithin total) step os ns a i w))
