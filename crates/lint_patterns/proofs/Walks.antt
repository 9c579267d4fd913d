-- Expressions on a stack.
use Rattle.std.proofs.Common.{◌≡◌, ◌∙◌, ℕ, suc, ◌≤◌, List, [], ◌∷◌, ◌++◌, ◌||◌, Bool, true, false, Bor, length, refl, sym, ap, append_assoc, append-nil, arith}
use Rattle.std.specs.List.{list_any}
use Rattle.base_ast.specs.Ast.{expression_of}
use Rattle.base_ast.specs.declared.ast.Expr.{Expr}
use Rattle.base_language.specs.Language.Expression.{Expression, PosPred, NegPred, Seq, Choice, Opt, Rep, RepOnce, RepExact, RepMin, RepMax, RepMinMax, Push, NodeTag, RestoreOnErr}
use Rattle.lint_patterns.specs.Rewritten.{parts}
use Rattle.lint_patterns.specs.Stacks.{expressions_left}

-- an expression on top of a stack comes first
pub left_push : (ns : List (Bor Expr)) (n : Bor Expr) → expressions_left (ns ++ (n ∷ [])) ≡ parts (expression_of n.now) ++ expressions_left ns
left_push [] n = sym (append-nil (parts (expression_of n.now)))
left_push (m ∷ ns) n = rw (left_push ns n) (append_assoc (parts (expression_of n.now)) (expressions_left ns) (parts (expression_of m.now)))

-- two operands on a stack, the left one above the right
pub both_left : (ns ms ks : List (Bor Expr)) (l r : Bor Expr) → ms ≡ ns ++ (r ∷ []) → ks ≡ ms ++ (l ∷ []) → expressions_left ks ≡ (parts (expression_of l.now) ++ parts (expression_of r.now)) ++ expressions_left ns
both_left ns ms ks l r g h =
    rw (h, left_push ms l, g, left_push ns r) (sym (append_assoc (parts (expression_of l.now)) (parts (expression_of r.now)) (expressions_left ns)))

-- what is left behind an expression, when its operands are on the stack in its place
pub left_on : (ss ps qs : List (Bor Expr)) (n : Bor Expr) → ss ≡ ps ++ (n ∷ []) → expression_of n.now ∷ expressions_left qs ≡ parts (expression_of n.now) ++ expressions_left ps → expressions_left ss ≡ expression_of n.now ∷ expressions_left qs
left_on ss ps qs n e h = rw (e, left_push ps n) (sym h)

pub left_less : (ss ps qs : List (Bor Expr)) (n : Bor Expr) → ss ≡ ps ++ (n ∷ []) → expression_of n.now ∷ expressions_left qs ≡ parts (expression_of n.now) ++ expressions_left ps → suc (length (expressions_left qs)) ≤ length (expressions_left ss)
left_less ss ps qs n e h = rw (left_on ss ps qs n e h) (omega arith)

-- an expression is the first of its parts
first_of : (e : Expression) → (r : List Expression) × (parts e ≡ e ∷ r)
first_of (PosPred e) = (parts e, refl)
first_of (NegPred e) = (parts e, refl)
first_of (Seq a b) = (parts a ++ parts b, refl)
first_of (Choice a b) = (parts a ++ parts b, refl)
first_of (Opt e) = (parts e, refl)
first_of (Rep e) = (parts e, refl)
first_of (RepOnce e) = (parts e, refl)
first_of (RepExact e n) = (parts e, refl)
first_of (RepMin e m) = (parts e, refl)
first_of (RepMax e n) = (parts e, refl)
first_of (RepMinMax e m n) = (parts e, refl)
first_of (Push e) = (parts e, refl)
first_of (NodeTag e t) = (parts e, refl)
first_of (RestoreOnErr e) = (parts e, refl)
first_of e = ([], refl)

-- one that fails a test was met
pub none_met : (p : Expression → Bool) (x : Expression) (w v : List Expression) (all : Bool) → w ≡ x ∷ v → p x ≡ false → list_any p w ≡ all → list_any p v ≡ all
none_met p x w v all e h i = sym (ap (λ b. b || list_any p v) h) ∙ (sym (ap (list_any p) e) ∙ i)

some_met : (p : Expression → Bool) (x : Expression) (w v : List Expression) (all : Bool) → w ≡ x ∷ v → p x ≡ true → list_any p w ≡ all → all ≡ true
some_met p x w v all e h i = sym i ∙ (ap (list_any p) e ∙ ap (λ b. b || list_any p v) h)

-- one on top of the stack passes a test
pub some_popped : (p : Expression → Bool) (ss ps : List (Bor Expr)) (n : Bor Expr) (all : Bool) → ss ≡ ps ++ (n ∷ []) → p (expression_of n.now) ≡ true → list_any p (expressions_left ss) ≡ all → all ≡ true
some_popped p ss ps n all e h i =
    let q = first_of (expression_of n.now) in
    some_met p (expression_of n.now) (expressions_left ss) (q.0 ++ expressions_left ps) all (ap expressions_left e ∙ (left_push ps n ∙ ap (λ l. l ++ expressions_left ps) q.1)) h i

-- the operands of an expression wait in its place
pub seq_left : (v : Expression) (ns ms ks : List (Bor Expr)) (l r : Bor Expr) → v ≡ Seq (expression_of l.now) (expression_of r.now) → ms ≡ ns ++ (r ∷ []) → ks ≡ ms ++ (l ∷ []) → v ∷ expressions_left ks ≡ parts v ++ expressions_left ns
seq_left v ns ms ks l r e g h = rw e (ap (λ w. Seq (expression_of l.now) (expression_of r.now) ∷ w) (both_left ns ms ks l r g h))

pub choice_left : (v : Expression) (ns ms ks : List (Bor Expr)) (l r : Bor Expr) → v ≡ Choice (expression_of l.now) (expression_of r.now) → ms ≡ ns ++ (r ∷ []) → ks ≡ ms ++ (l ∷ []) → v ∷ expressions_left ks ≡ parts v ++ expressions_left ns
choice_left v ns ms ks l r e g h = rw e (ap (λ w. Choice (expression_of l.now) (expression_of r.now) ∷ w) (both_left ns ms ks l r g h))
