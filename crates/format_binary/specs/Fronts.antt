-- What bytes begin with.
use Rattle.std.specs.Prelude.{◌≡◌, ℕ, zero, suc, List, [], ◌∷◌, ◌++◌, string_bytes}
use Rattle.std.specs.declared.alloc.Global.{Global}
use Rattle.std.specs.declared.string.String.{String}
use Rattle.std.specs.declared.vec.Vec.{Vec}
use Rattle.format_binary.specs.Format.{end_bytes, list_bytes, optimized_expression_bytes, optimized_rules_bytes, rule_bytes, text_bytes, type_byte}
use Rattle.base_ast.specs.declared.optimized.OptimizedExpr.{OptimizedExpr}
use Rattle.base_ast.specs.declared.optimized.OptimizedRule.{OptimizedRule}
use Rattle.format_binary.specs.declared.operators.FirstNode.{FirstNode}
use Rattle.format_binary.specs.declared.operators.FirstNode.TheVariants as first
use Rattle.format_binary.specs.declared.trees.OpenOperator.{OpenOperator}
use Rattle.format_binary.specs.declared.trees.OpenOperator.TheVariants as open_as

-- the bytes of some value stand at their front
pub record BeginsWith {A : Type 0} (bytes_of : A → List ℕ) (bytes : List ℕ) : Type 0 where
  pub value : A
  pub rest : List ℕ
  pub same : bytes ≡ bytes_of value ++ rest

-- a text, and a list of texts
abbrev pub item_bytes : String Global → List ℕ
item_bytes s = text_bytes (string_bytes s)

abbrev pub BeginsWithText : List ℕ → Type 0
BeginsWithText bytes = BeginsWith item_bytes bytes

abbrev pub Texts : Type 0
Texts = Vec (String Global) Global

abbrev pub BeginsWithTexts : List ℕ → Type 0
BeginsWithTexts bytes = BeginsWith (λ (texts : Texts). list_bytes item_bytes texts.items) bytes

-- the end of a slice of the stack, and an expression
abbrev pub BeginsWithEnd : List ℕ → Type 0
BeginsWithEnd bytes = BeginsWith end_bytes bytes

abbrev pub BeginsWithExpression : List ℕ → Type 0
BeginsWithExpression bytes = BeginsWith optimized_expression_bytes bytes

-- a type, and a rule
abbrev pub BeginsWithType : List ℕ → Type 0
BeginsWithType bytes = BeginsWith (λ ty. type_byte ty ∷ []) bytes

abbrev pub rule_item : OptimizedRule → List ℕ
rule_item r = rule_bytes (string_bytes r.name) r.ty (optimized_expression_bytes r.expr)

abbrev pub BeginsWithRule : List ℕ → Type 0
BeginsWithRule bytes = BeginsWith rule_item bytes

-- no list of optimized rules has these bytes
abbrev pub Rules : Type 0
Rules = Vec OptimizedRule Global

abbrev pub AreOfNoRules : List ℕ → Type 0
AreOfNoRules bytes = (rules : Rules) → bytes ≡ optimized_rules_bytes rules.items → ⊥

-- the operands of the node that was read are next, and then other bytes
abbrev pub OperandsFollow : FirstNode → List ℕ → List ℕ → Type 0
OperandsFollow (first.Whole x) bytes rest = bytes ≡ rest
OperandsFollow (first.One op) bytes rest =
    (x : OptimizedExpr) × (bytes ≡ optimized_expression_bytes x ++ rest)
OperandsFollow (first.Two op) bytes rest = (x : OptimizedExpr) × (y : OptimizedExpr)
    × (bytes ≡ optimized_expression_bytes x ++ (optimized_expression_bytes y ++ rest))

-- a given number of expressions are next, and then other bytes
abbrev pub ExpressionsFollow : ℕ → List ℕ → List ℕ → Type 0
ExpressionsFollow zero bytes rest = bytes ≡ rest
ExpressionsFollow (suc n) bytes rest = (x : OptimizedExpr) × (more : List ℕ)
    × (bytes ≡ optimized_expression_bytes x ++ more) × ExpressionsFollow n more rest

-- how many operands open operators lack, without those that are read next
abbrev pub missing : List OpenOperator → ℕ
missing [] = 0
missing (open_as.One op ∷ os) = missing os
missing (open_as.First op ∷ os) = suc (missing os)
missing (open_as.Second op left ∷ os) = missing os
