-- Properties of the rules of the meta-grammar.
use Rattle.std.specs.Prelude.{ℕ, Bool, true, false}
use Rattle.base_language.specs.declared.grammar.Rule.{Rule}
use Rattle.base_language.specs.declared.grammar.Rule.TheVariants as is

-- whether it is a rule of the grammar
abbrev pub is_defined : Rule → Bool
is_defined is.EOI = false
is_defined _ = true

-- whether a rule is one of the two that are skipped
abbrev pub is_blank : Rule → Bool
is_blank is.WHITESPACE = true
is_blank is.COMMENT = true
is_blank _ = false

-- a number for each rule that bounds the cost of its body, so that left calls go down
abbrev pub rank_of : Rule → ℕ
rank_of is.grammar_rules = 47
rank_of is.grammar_rule = 33
rank_of is.modifier = 7
rank_of is.tag_id = 6
rank_of is.node_tag = 12
rank_of is.expression = 54
rank_of is.term = 45
rank_of is.node = 33
rank_of is.terminal = 28
rank_of is.prefix_operator = 5
rank_of is.infix_operator = 5
rank_of is.postfix_operator = 25
rank_of is.repeat_exact = 9
rank_of is.repeat_min = 12
rank_of is.repeat_max = 12
rank_of is.repeat_min_max = 15
rank_of is.number = 3
rank_of is.integer = 11
rank_of is._push = 9
rank_of is._push_literal = 9
rank_of is.peek_slice = 15
rank_of is.identifier = 13
rank_of is.alpha = 2
rank_of is.alpha_num = 7
rank_of is.string = 9
rank_of is.insensitive_string = 3
rank_of is.range = 18
rank_of is.character = 9
rank_of is.inner_str = 21
rank_of is.inner_chr = 9
rank_of is.escape = 3
rank_of is.code = 6
rank_of is.unicode = 9
rank_of is.hex_digit = 4
rank_of is.newline = 2
rank_of is.WHITESPACE = 7
rank_of is.line_comment = 6
rank_of is.block_comment = 6
rank_of is.COMMENT = 11
rank_of is.space = 2
rank_of is.grammar_doc = 6
rank_of is.line_doc = 6
rank_of is.inner_doc = 13
rank_of _ = 0
