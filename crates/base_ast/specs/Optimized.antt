-- Views of an optimized rule and expression as those of the definitions, without memory.
use Rattle.std.specs.Prelude.{List, map}
use Rattle.base_language.specs.Language.Expression.{Expression, Rule, Grammar}
use Rattle.base_language.specs.Language.Expression as e
use Rattle.base_ast.specs.Ast.{text_of, rule_type_of}
use Rattle.base_ast.specs.declared.optimized.OptimizedExpr.{OptimizedExpr, Str, Insens, Range, Ident, PeekSlice, PosPred', NegPred', Seq', Choice', Opt', Rep', RepOnce', Skip, Push', PushLiteral, NodeTag', RestoreOnErr'}
use Rattle.base_ast.specs.declared.optimized.OptimizedRule.{OptimizedRule}

-- the view of an expression; `p` and `q` are the addresses of its boxes
abbrev pub optimized_expression_of : OptimizedExpr → Expression
optimized_expression_of (Str s) = e.Str (text_of s)
optimized_expression_of (Insens s) = e.Insens (text_of s)
optimized_expression_of (Range s t) = e.Range (text_of s) (text_of t)
optimized_expression_of (Ident s) = e.Ident (text_of s)
optimized_expression_of (PeekSlice i j) = e.PeekSlice i j
optimized_expression_of (PosPred' p x) = e.PosPred (optimized_expression_of x)
optimized_expression_of (NegPred' p x) = e.NegPred (optimized_expression_of x)
optimized_expression_of (Seq' p x q y) = e.Seq (optimized_expression_of x) (optimized_expression_of y)
optimized_expression_of (Choice' p x q y) = e.Choice (optimized_expression_of x) (optimized_expression_of y)
optimized_expression_of (Opt' p x) = e.Opt (optimized_expression_of x)
optimized_expression_of (Rep' p x) = e.Rep (optimized_expression_of x)
optimized_expression_of (RepOnce' p x) = e.RepOnce (optimized_expression_of x)
optimized_expression_of (Skip ss) = e.Skip (map text_of ss.items)
optimized_expression_of (Push' p x) = e.Push (optimized_expression_of x)
optimized_expression_of (PushLiteral s) = e.PushLiteral (text_of s)
optimized_expression_of (NodeTag' p x t) = e.NodeTag (optimized_expression_of x) (text_of t)
optimized_expression_of (RestoreOnErr' p x) = e.RestoreOnErr (optimized_expression_of x)

-- a rule's
abbrev pub optimized_rule_of : OptimizedRule → Rule
optimized_rule_of r =
    record { name = text_of r.name; type_of = rule_type_of r.ty; body = optimized_expression_of r.expr }

-- a list of rules'
abbrev pub optimized_rules_of : List OptimizedRule → Grammar
optimized_rules_of rs = map optimized_rule_of rs
