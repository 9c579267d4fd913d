-- Rules of code without their spans, and the builtins that take nothing.
use Rattle.std.specs.Prelude.{List, Bool, ◌||◌, bytes_eq, codes}
use Rattle.base_language.specs.Language.Text.{Text}
use Rattle.base_language.specs.Language.Expression.{Rule, Grammar}
use Rattle.front_spanned.specs.Nodes.{rule_view, rule_views}
use Rattle.front_spanned.specs.Erasure.{rule_without_spans, rules_without_spans}
use Rattle.front_spanned.specs.declared.node.ParserRule.{ParserRule}

-- a rule of code, without its spans
abbrev pub rule_said : ParserRule → Rule
rule_said r = rule_without_spans (rule_view r)

-- the rules of code, without their spans
abbrev pub grammar_of : List ParserRule → Grammar
grammar_of rs = rules_without_spans (rule_views rs)

-- the builtins that may take nothing
abbrev pub is_end : Text → Bool
is_end n = bytes_eq n (codes "SOI") || bytes_eq n (codes "EOI")
