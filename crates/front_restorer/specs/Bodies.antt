-- Bodies of rules by name, and the grammars that have them.
use Rattle.std.specs.Prelude.{◌≡◌, List, map, Option, string_bytes}
use Rattle.std.specs.Option.{option_map}
use Rattle.std.specs.HashMap.{HashMap, get_by_text}
use Rattle.std.specs.declared.alloc.Global.{Global}
use Rattle.std.specs.declared.string.String.{String}
use Rattle.base_language.specs.Language.Expression.{Expression, Normal, Rule, Grammar, rule_of}
use Rattle.base_ast.specs.Ast.{text_of}
use Rattle.base_ast.specs.Optimized.{optimized_expression_of}
use Rattle.base_ast.specs.declared.optimized.OptimizedExpr.{OptimizedExpr}
use Rattle.base_ast.specs.declared.optimized.OptimizedRule.{OptimizedRule}
use Rattle.front_restorer.specs.declared.bodies.Body.{Body}

-- a name, and the body of its rule
abbrev pub NamedBody : Type 0
NamedBody = String Global × OptimizedExpr

abbrev pub said_by : Body → NamedBody
said_by b = (b.name.now, b.expr.now)

abbrev pub named_body : OptimizedRule → NamedBody
named_body r = (r.name, r.expr)

-- a rule of that name and body; its type does not matter for what changes the stack
abbrev pub rule_with : NamedBody → Rule
rule_with b = record { name = text_of b.0; type_of = Normal; body = optimized_expression_of b.1 }

abbrev pub grammar_with : List NamedBody → Grammar
grammar_with bs = map rule_with bs

-- the body of the rule that a name means
abbrev pub body_in : Grammar → String Global → Option Expression
body_in g n = option_map (λ (r : Rule). r.body) (rule_of g (text_of n))

-- the map holds the body of the rule that a name means, for every name
abbrev pub HoldsOptimizedBodies : {S : Type 0} → HashMap (String Global) OptimizedExpr S → Grammar → Type 0
HoldsOptimizedBodies m g = (n : String Global)
    → option_map optimized_expression_of (get_by_text m (string_bytes n)) ≡ body_in g n

-- names mean rules of the same bodies
abbrev pub SameBodies : Grammar → Grammar → Type 0
SameBodies g h = (n : String Global) → body_in g n ≡ body_in h n
