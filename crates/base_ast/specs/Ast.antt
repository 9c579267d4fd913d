-- Views of a rule and an expression of code as those of the definitions, without memory.
use Rattle.std.specs.Prelude.{List, map, string_bytes}
use Rattle.std.specs.Str.{chars}
use Rattle.std.specs.declared.string.String.{String}
use Rattle.std.specs.declared.alloc.Global.{Global}
use Rattle.base_language.specs.Language.Text.{Text}
use Rattle.base_language.specs.Language.Expression.{Expression, RuleType, Rule, Grammar}
use Rattle.base_language.specs.Language.Expression as e
use Rattle.base_ast.specs.declared.ast.Expr.{Expr, Str, Insens, Range, Ident, PeekSlice, PosPred', NegPred', Seq', Choice', Opt', Rep', RepOnce', RepExact', RepMin', RepMax', RepMinMax', Skip, Push', PushLiteral, NodeTag'}
use Rattle.base_ast.specs.declared.ast.RuleType as code
use Rattle.base_ast.specs.declared.ast.RuleType.TheVariants.{Normal, Silent, Atomic, CompoundAtomic, NonAtomic}
use Rattle.base_ast.specs.declared.ast.Rule as code_rule

-- a string's characters
abbrev pub text_of : String Global → Text
text_of s = chars (string_bytes s)

-- a type's
abbrev pub rule_type_of : code.RuleType → RuleType
rule_type_of Normal = e.Normal
rule_type_of Silent = e.Silent
rule_type_of Atomic = e.Atomic
rule_type_of CompoundAtomic = e.CompoundAtomic
rule_type_of NonAtomic = e.NonAtomic

-- the view of an expression; `p` and `q` are the addresses of its boxes
abbrev pub expression_of : Expr → Expression
expression_of (Str s) = e.Str (text_of s)
expression_of (Insens s) = e.Insens (text_of s)
expression_of (Range s t) = e.Range (text_of s) (text_of t)
expression_of (Ident s) = e.Ident (text_of s)
expression_of (PeekSlice i j) = e.PeekSlice i j
expression_of (PosPred' p x) = e.PosPred (expression_of x)
expression_of (NegPred' p x) = e.NegPred (expression_of x)
expression_of (Seq' p x q y) = e.Seq (expression_of x) (expression_of y)
expression_of (Choice' p x q y) = e.Choice (expression_of x) (expression_of y)
expression_of (Opt' p x) = e.Opt (expression_of x)
expression_of (Rep' p x) = e.Rep (expression_of x)
expression_of (RepOnce' p x) = e.RepOnce (expression_of x)
expression_of (RepExact' p x n) = e.RepExact (expression_of x) n
expression_of (RepMin' p x m) = e.RepMin (expression_of x) m
expression_of (RepMax' p x n) = e.RepMax (expression_of x) n
expression_of (RepMinMax' p x m n) = e.RepMinMax (expression_of x) m n
expression_of (Skip ss) = e.Skip (map text_of ss.items)
expression_of (Push' p x) = e.Push (expression_of x)
expression_of (PushLiteral s) = e.PushLiteral (text_of s)
expression_of (NodeTag' p x t) = e.NodeTag (expression_of x) (text_of t)

-- a rule's
abbrev pub rule_of_code : code_rule.Rule → Rule
rule_of_code r = record { name = text_of r.name; type_of = rule_type_of r.ty; body = expression_of r.expr }

-- a list of rules'
abbrev pub rules_of : List code_rule.Rule → Grammar
rules_of rs = map rule_of_code rs
