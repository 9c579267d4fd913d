-- The rules of the meta-grammar, by name and in order.
use Rattle.std.specs.Prelude.{List, [], ◌∷◌, codes}
use Rattle.base_language.specs.Language.Text.{Text}
use Rattle.base_language.specs.declared.grammar.Rule.{Rule}
use Rattle.base_language.specs.declared.grammar.Rule.TheVariants.{EOI, grammar_rules, grammar_rule, assignment_operator, opening_brace, closing_brace, opening_paren, closing_paren, opening_brack, closing_brack, modifier, silent_modifier, atomic_modifier, compound_atomic_modifier, non_atomic_modifier, tag_id, node_tag, expression, term, node, terminal, prefix_operator, infix_operator, postfix_operator, positive_predicate_operator, negative_predicate_operator, sequence_operator, choice_operator, optional_operator, repeat_operator, repeat_once_operator, repeat_exact, repeat_min, repeat_max, repeat_min_max, number, integer, comma, _push, _push_literal, peek_slice, identifier, alpha, alpha_num, string, insensitive_string, range, character, inner_str, inner_chr, escape, code, unicode, hex_digit, quote, single_quote, range_operator, newline, WHITESPACE, line_comment, block_comment, COMMENT, space, grammar_doc, line_doc, inner_doc}

-- a rule's name, as it is called
abbrev pub name_of : Rule → Text
name_of EOI = codes "EOI"
name_of grammar_rules = codes "grammar_rules"
name_of grammar_rule = codes "grammar_rule"
name_of assignment_operator = codes "assignment_operator"
name_of opening_brace = codes "opening_brace"
name_of closing_brace = codes "closing_brace"
name_of opening_paren = codes "opening_paren"
name_of closing_paren = codes "closing_paren"
name_of opening_brack = codes "opening_brack"
name_of closing_brack = codes "closing_brack"
name_of modifier = codes "modifier"
name_of silent_modifier = codes "silent_modifier"
name_of atomic_modifier = codes "atomic_modifier"
name_of compound_atomic_modifier = codes "compound_atomic_modifier"
name_of non_atomic_modifier = codes "non_atomic_modifier"
name_of tag_id = codes "tag_id"
name_of node_tag = codes "node_tag"
name_of expression = codes "expression"
name_of term = codes "term"
name_of node = codes "node"
name_of terminal = codes "terminal"
name_of prefix_operator = codes "prefix_operator"
name_of infix_operator = codes "infix_operator"
name_of postfix_operator = codes "postfix_operator"
name_of positive_predicate_operator = codes "positive_predicate_operator"
name_of negative_predicate_operator = codes "negative_predicate_operator"
name_of sequence_operator = codes "sequence_operator"
name_of choice_operator = codes "choice_operator"
name_of optional_operator = codes "optional_operator"
name_of repeat_operator = codes "repeat_operator"
name_of repeat_once_operator = codes "repeat_once_operator"
name_of repeat_exact = codes "repeat_exact"
name_of repeat_min = codes "repeat_min"
name_of repeat_max = codes "repeat_max"
name_of repeat_min_max = codes "repeat_min_max"
name_of number = codes "number"
name_of integer = codes "integer"
name_of comma = codes "comma"
name_of _push = codes "_push"
name_of _push_literal = codes "_push_literal"
name_of peek_slice = codes "peek_slice"
name_of identifier = codes "identifier"
name_of alpha = codes "alpha"
name_of alpha_num = codes "alpha_num"
name_of string = codes "string"
name_of insensitive_string = codes "insensitive_string"
name_of range = codes "range"
name_of character = codes "character"
name_of inner_str = codes "inner_str"
name_of inner_chr = codes "inner_chr"
name_of escape = codes "escape"
name_of code = codes "code"
name_of unicode = codes "unicode"
name_of hex_digit = codes "hex_digit"
name_of quote = codes "quote"
name_of single_quote = codes "single_quote"
name_of range_operator = codes "range_operator"
name_of newline = codes "newline"
name_of WHITESPACE = codes "WHITESPACE"
name_of line_comment = codes "line_comment"
name_of block_comment = codes "block_comment"
name_of COMMENT = codes "COMMENT"
name_of space = codes "space"
name_of grammar_doc = codes "grammar_doc"
name_of line_doc = codes "line_doc"
name_of inner_doc = codes "inner_doc"

-- the rules in the order of the meta-grammar; EOI is none of them
abbrev pub meta_rules : List Rule
meta_rules =
    grammar_rules
    ∷ grammar_rule
    ∷ assignment_operator
    ∷ opening_brace
    ∷ closing_brace
    ∷ opening_paren
    ∷ closing_paren
    ∷ opening_brack
    ∷ closing_brack
    ∷ modifier
    ∷ silent_modifier
    ∷ atomic_modifier
    ∷ compound_atomic_modifier
    ∷ non_atomic_modifier
    ∷ tag_id
    ∷ node_tag
    ∷ expression
    ∷ term
    ∷ node
    ∷ terminal
    ∷ prefix_operator
    ∷ infix_operator
    ∷ postfix_operator
    ∷ positive_predicate_operator
    ∷ negative_predicate_operator
    ∷ sequence_operator
    ∷ choice_operator
    ∷ optional_operator
    ∷ repeat_operator
    ∷ repeat_once_operator
    ∷ repeat_exact
    ∷ repeat_min
    ∷ repeat_max
    ∷ repeat_min_max
    ∷ number
    ∷ integer
    ∷ comma
    ∷ _push
    ∷ _push_literal
    ∷ peek_slice
    ∷ identifier
    ∷ alpha
    ∷ alpha_num
    ∷ string
    ∷ insensitive_string
    ∷ range
    ∷ character
    ∷ inner_str
    ∷ inner_chr
    ∷ escape
    ∷ code
    ∷ unicode
    ∷ hex_digit
    ∷ quote
    ∷ single_quote
    ∷ range_operator
    ∷ newline
    ∷ WHITESPACE
    ∷ line_comment
    ∷ block_comment
    ∷ COMMENT
    ∷ space
    ∷ grammar_doc
    ∷ line_doc
    ∷ inner_doc
    ∷ []
