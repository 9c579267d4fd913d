-- Tokens as numbers.
use Rattle.std.specs.Prelude.{ℕ, List, [], ◌∷◌, flat_map}
use Rattle.base_language.specs.declared.grammar.Rule.{Rule}
use Rattle.base_language.specs.declared.grammar.Rule.TheVariants as rule
use Rattle.front_syntax.specs.declared.events.TokenEvent.{TokenEvent}
use Rattle.front_syntax.specs.declared.events.TokenEvent.TheVariants as event

-- one more than the rule's index in the meta-grammar, and for `EOI` the number after all rules
abbrev pub number_of : Rule → ℕ
number_of rule.grammar_rules = 1
number_of rule.grammar_rule = 2
number_of rule.assignment_operator = 3
number_of rule.opening_brace = 4
number_of rule.closing_brace = 5
number_of rule.opening_paren = 6
number_of rule.closing_paren = 7
number_of rule.opening_brack = 8
number_of rule.closing_brack = 9
number_of rule.modifier = 10
number_of rule.silent_modifier = 11
number_of rule.atomic_modifier = 12
number_of rule.compound_atomic_modifier = 13
number_of rule.non_atomic_modifier = 14
number_of rule.tag_id = 15
number_of rule.node_tag = 16
number_of rule.expression = 17
number_of rule.term = 18
number_of rule.node = 19
number_of rule.terminal = 20
number_of rule.prefix_operator = 21
number_of rule.infix_operator = 22
number_of rule.postfix_operator = 23
number_of rule.positive_predicate_operator = 24
number_of rule.negative_predicate_operator = 25
number_of rule.sequence_operator = 26
number_of rule.choice_operator = 27
number_of rule.optional_operator = 28
number_of rule.repeat_operator = 29
number_of rule.repeat_once_operator = 30
number_of rule.repeat_exact = 31
number_of rule.repeat_min = 32
number_of rule.repeat_max = 33
number_of rule.repeat_min_max = 34
number_of rule.number = 35
number_of rule.integer = 36
number_of rule.comma = 37
number_of rule._push = 38
number_of rule._push_literal = 39
number_of rule.peek_slice = 40
number_of rule.identifier = 41
number_of rule.alpha = 42
number_of rule.alpha_num = 43
number_of rule.string = 44
number_of rule.insensitive_string = 45
number_of rule.range = 46
number_of rule.character = 47
number_of rule.inner_str = 48
number_of rule.inner_chr = 49
number_of rule.escape = 50
number_of rule.code = 51
number_of rule.unicode = 52
number_of rule.hex_digit = 53
number_of rule.quote = 54
number_of rule.single_quote = 55
number_of rule.range_operator = 56
number_of rule.newline = 57
number_of rule.WHITESPACE = 58
number_of rule.line_comment = 59
number_of rule.block_comment = 60
number_of rule.COMMENT = 61
number_of rule.space = 62
number_of rule.grammar_doc = 63
number_of rule.line_doc = 64
number_of rule.inner_doc = 65
number_of rule.EOI = 66

-- an event: its rule's number, or 0 where it ends a token; its position; the index of its partner
abbrev pub event_numbers : TokenEvent → List ℕ
event_numbers (event.Start rule pos partner) = number_of rule ∷ pos ∷ partner ∷ []
event_numbers (event.End pos partner) = 0 ∷ pos ∷ partner ∷ []

-- events in order
abbrev pub token_numbers : List TokenEvent → List ℕ
token_numbers events = flat_map event_numbers events
