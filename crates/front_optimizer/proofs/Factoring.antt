-- What is factored at each node from the root down.
use Rattle.std.proofs.Common.{◌≡◌, refl, ℕ, ◌+◌, ◌≤◌, subst, Bool, true, false, if◌then◌else◌, arith, Result, Ok, Err, IfOk}
use Rattle.std.specs.declared.alloc.AllocError.{AllocError}
use Rattle.base_ast.specs.declared.ast.Expr.{Expr}
use Rattle.base_ast.specs.Ast.{expression_of}
use Rattle.base_language.specs.Language.Expression.{Expression, Seq, Choice, Opt, RuleType, Atomic, CompoundAtomic}
use Rattle.base_language.specs.Rewritings.Equality.{expression_eq, expression_eq-Decides}
use Rattle.base_language.specs.Rewritings.Rewriting.{Many, no_step, one_step, here, Factors, factor_prefix, factor_optional, factor_optional_compound, factor_absorbed}
use Rattle.base_ast.specs.Operands.{count_of_nodes}
use Rattle.front_optimizer.specs.Here.{factored_here, factored_choice, with_optional, absorbed}
use Rattle.front_optimizer.specs.Traversals.{TopDown}
use Rattle.front_optimizer.proofs.Chains as chains

abbrev pub Factored : RuleType → Expression → Expression → Type 0
Factored y a b = factored_here y a ≡ b

tested : {J : Expression → Expression → Type 0} (t : Bool) {a b : Expression} → (t ≡ true → Many J a b) → Many J a (if t then b else a)
tested true f = f refl
tested false f = no_step

equal : (l k : Expression) → expression_eq l k ≡ true → l ≡ k
equal l k h = (expression_eq-Decides l k).0 h

absorbs : (y : RuleType) (a b : Expression) → Many (Factors y) (Choice a b) (absorbed a b)
absorbs y a (Seq l r) = tested (expression_eq a l) (λ h. subst (λ z. Many (Factors y) (Choice a (Seq z r)) a) (equal a l h) (one_step (here factor_absorbed) no_step))
absorbs y a _ = no_step

optional : (y : RuleType) → ((l r : Expression) → Factors y (Choice (Seq l r) l) (Seq l (Opt r))) → (l r k : Expression) → Many (Factors y) (Choice (Seq l r) k) (with_optional l r k)
optional y f l r k = tested (expression_eq l k) (λ h. subst (λ z. Many (Factors y) (Choice (Seq l r) z) (Seq l (Opt r))) (equal l k h) (one_step (here (f l r)) no_step))

chosen : (y : RuleType) (a b : Expression) → Many (Factors y) (Choice a b) (factored_choice y a b)
chosen y (Seq l r) (Seq k q) = tested (expression_eq l k) (λ h. subst (λ z. Many (Factors y) (Choice (Seq l r) (Seq z q)) (Seq l (Choice r q))) (equal l k h) (one_step (here factor_prefix) no_step))
chosen Atomic (Seq l r) k = optional Atomic (λ x z. factor_optional) l r k
chosen CompoundAtomic (Seq l r) k = optional CompoundAtomic (λ x z. factor_optional_compound) l r k
chosen y a b = absorbs y a b

steps_here : (y : RuleType) (a : Expression) → Many (Factors y) a (factored_here y a)
steps_here y (Choice a b) = chosen y a b
steps_here y _ = no_step

pub reached : (y : RuleType) {a b : Expression} → TopDown (Factored y) a b → Many (Factors y) a b
reached y d = chains.top_down_many (Factors y) (Factored y) (λ a b h. subst (Many (Factors y) a) h (steps_here y a)) d

-- it makes no expression larger
tested_size : (t : Bool) (a b : Expression) {n : ℕ} → count_of_nodes a ≤ n → count_of_nodes b ≤ n → count_of_nodes (if t then a else b) ≤ n
tested_size true a b h k = h
tested_size false a b h k = k

absorbed_size : (a b : Expression) → count_of_nodes (absorbed a b) ≤ count_of_nodes a + count_of_nodes b + 1
absorbed_size a (Seq l r) = tested_size (expression_eq a l) a (Choice a (Seq l r)) (omega arith) (omega arith)
absorbed_size a _ = omega arith

optional_size : (l r k : Expression) → count_of_nodes (with_optional l r k) ≤ count_of_nodes l + count_of_nodes r + 1 + count_of_nodes k + 1
optional_size l r k = tested_size (expression_eq l k) (Seq l (Opt r)) (Choice (Seq l r) k) (omega arith) (omega arith)

pub smaller : (y : RuleType) (a b : Expression) → count_of_nodes (factored_choice y a b) ≤ count_of_nodes a + count_of_nodes b + 1
smaller y (Seq l r) (Seq k q) = tested_size (expression_eq l k) (Seq l (Choice r q)) (Choice (Seq l r) (Seq k q)) (omega arith) (omega arith)
smaller Atomic (Seq l r) k = optional_size l r k
smaller CompoundAtomic (Seq l r) k = optional_size l r k
smaller y a b = absorbed_size a b

pub shrunk : (y : RuleType) (a b : Expression) (r : Result Expr AllocError) → IfOk r (λ x. expression_of x ≡ factored_choice y a b) → IfOk r (λ x. count_of_nodes (expression_of x) ≤ count_of_nodes a + count_of_nodes b + 1)
shrunk y a b (Ok x) h = rw h (smaller y a b)
shrunk y a b (Err x) h = h
