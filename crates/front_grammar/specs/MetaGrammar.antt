-- The meta-grammar: the grammar in which grammars are written.
use Rattle.std.specs.Prelude.{[], ◌∷◌, ◌++◌, map, codes}
use Rattle.base_language.specs.Language.Expression as spec
use Rattle.base_language.specs.Language.Text.{Text}
use Rattle.base_language.specs.Language.Expression.{Expression, Str, Range, Ident, NegPred, Seq, Choice, Opt, Rep, RepOnce, RepMinMax, RuleType, Normal, Silent, Atomic, CompoundAtomic, Grammar}
use Rattle.base_language.specs.Pieces.MetaRules.{name_of, meta_rules}
use Rattle.base_language.specs.declared.grammar.Rule.{Rule}
use Rattle.base_language.specs.declared.grammar.Rule.TheVariants.{EOI, grammar_rules, grammar_rule, assignment_operator, opening_brace, closing_brace, opening_paren, closing_paren, opening_brack, closing_brack, modifier, silent_modifier, atomic_modifier, compound_atomic_modifier, non_atomic_modifier, tag_id, node_tag, expression, term, node, terminal, prefix_operator, infix_operator, postfix_operator, positive_predicate_operator, negative_predicate_operator, sequence_operator, choice_operator, optional_operator, repeat_operator, repeat_once_operator, repeat_exact, repeat_min, repeat_max, repeat_min_max, number, integer, comma, _push, _push_literal, peek_slice, identifier, alpha, alpha_num, string, insensitive_string, range, character, inner_str, inner_chr, escape, code, unicode, hex_digit, quote, single_quote, range_operator, newline, WHITESPACE, line_comment, block_comment, COMMENT, space, grammar_doc, line_doc, inner_doc}

-- one expression and then another; the first that matches
infixl 7 ◌~◌
abbrev pub ◌~◌ : Expression → Expression → Expression
a ~ b = Seq a b

infixl 6 ◌or◌
abbrev pub ◌or◌ : Expression → Expression → Expression
a or b = Choice a b

-- a rule by its name; any character; the start of the text
abbrev pub rule : Rule → Expression
rule r = Ident (name_of r)

abbrev pub any : Expression
any = Ident (codes "ANY")

abbrev pub start : Expression
start = Ident (codes "SOI")

-- the characters that a literal of this file does not show
abbrev pub double_quote : Text
double_quote = 34 ∷ []

abbrev pub backslash : Text
backslash = 92 ∷ []

abbrev pub tab : Text
tab = 9 ∷ []

abbrev pub line_feed : Text
line_feed = 10 ∷ []

abbrev pub carriage_return : Text
carriage_return = 13 ∷ []

-- the rules' types: normal where nothing else is said
abbrev pub type_of_rule : Rule → RuleType
type_of_rule grammar_rules = Silent
type_of_rule modifier = Silent
type_of_rule tag_id = Atomic
type_of_rule node_tag = Silent
type_of_rule node = Silent
type_of_rule terminal = Silent
type_of_rule prefix_operator = Silent
type_of_rule infix_operator = Silent
type_of_rule postfix_operator = Silent
type_of_rule number = Atomic
type_of_rule integer = Atomic
type_of_rule identifier = Atomic
type_of_rule alpha = Silent
type_of_rule alpha_num = Silent
type_of_rule string = CompoundAtomic
type_of_rule character = CompoundAtomic
type_of_rule inner_str = Atomic
type_of_rule inner_chr = Atomic
type_of_rule escape = Atomic
type_of_rule code = Atomic
type_of_rule unicode = Atomic
type_of_rule hex_digit = Atomic
type_of_rule newline = Silent
type_of_rule WHITESPACE = Silent
type_of_rule line_comment = Silent
type_of_rule block_comment = Silent
type_of_rule COMMENT = Silent
type_of_rule space = Silent
type_of_rule grammar_doc = CompoundAtomic
type_of_rule line_doc = CompoundAtomic
type_of_rule inner_doc = Atomic
type_of_rule _ = Normal

-- the body of each rule; EOI is no rule of the grammar, and its body is a call of that name
abbrev pub body_of : Rule → Expression
body_of EOI = rule EOI
body_of grammar_rules = start ~ Rep (rule grammar_doc) ~ Rep (rule grammar_rule) ~ rule EOI
body_of grammar_rule =
    rule identifier ~ rule assignment_operator ~ Opt (rule modifier) ~ rule opening_brace ~ rule expression
    ~ rule closing_brace or rule line_doc
body_of assignment_operator = Str (codes "=")
body_of opening_brace = Str (codes "{")
body_of closing_brace = Str (codes "}")
body_of opening_paren = Str (codes "(")
body_of closing_paren = Str (codes ")")
body_of opening_brack = Str (codes "[")
body_of closing_brack = Str (codes "]")
body_of modifier =
    rule silent_modifier or rule atomic_modifier or rule compound_atomic_modifier or rule non_atomic_modifier
body_of silent_modifier = Str (codes "_")
body_of atomic_modifier = Str (codes "@")
body_of compound_atomic_modifier = Str (codes "$")
body_of non_atomic_modifier = Str (codes "!")
body_of tag_id = Str (codes "#") ~ (Str (codes "_") or rule alpha) ~ Rep (Str (codes "_") or rule alpha_num)
body_of node_tag = rule tag_id ~ rule assignment_operator
body_of expression = Opt (rule choice_operator) ~ rule term ~ Rep (rule infix_operator ~ rule term)
body_of term = Opt (rule node_tag) ~ Rep (rule prefix_operator) ~ rule node ~ Rep (rule postfix_operator)
body_of node = rule opening_paren ~ rule expression ~ rule closing_paren or rule terminal
body_of terminal =
    rule _push_literal or rule _push or rule peek_slice or rule identifier or rule string
    or rule insensitive_string or rule range
body_of prefix_operator = rule positive_predicate_operator or rule negative_predicate_operator
body_of infix_operator = rule sequence_operator or rule choice_operator
body_of postfix_operator =
    rule optional_operator or rule repeat_operator or rule repeat_once_operator or rule repeat_exact
    or rule repeat_min or rule repeat_max or rule repeat_min_max
body_of positive_predicate_operator = Str (codes "&")
body_of negative_predicate_operator = Str (codes "!")
body_of sequence_operator = Str (codes "~")
body_of choice_operator = Str (codes "|")
body_of optional_operator = Str (codes "?")
body_of repeat_operator = Str (codes "*")
body_of repeat_once_operator = Str (codes "+")
body_of repeat_exact = rule opening_brace ~ rule number ~ rule closing_brace
body_of repeat_min = rule opening_brace ~ rule number ~ rule comma ~ rule closing_brace
body_of repeat_max = rule opening_brace ~ rule comma ~ rule number ~ rule closing_brace
body_of repeat_min_max = rule opening_brace ~ rule number ~ rule comma ~ rule number ~ rule closing_brace
body_of number = RepOnce (Range (codes "0") (codes "9"))
body_of integer =
    rule number or Str (codes "-") ~ Rep (Str (codes "0")) ~ Range (codes "1") (codes "9") ~ Opt (rule number)
body_of comma = Str (codes ",")
body_of _push = Str (codes "PUSH") ~ rule opening_paren ~ rule expression ~ rule closing_paren
body_of _push_literal = Str (codes "PUSH_LITERAL") ~ rule opening_paren ~ rule string ~ rule closing_paren
body_of peek_slice =
    Str (codes "PEEK") ~ rule opening_brack ~ Opt (rule integer) ~ rule range_operator ~ Opt (rule integer)
    ~ rule closing_brack
body_of identifier =
    NegPred (Str (codes "PUSH")) ~ (Str (codes "_") or rule alpha) ~ Rep (Str (codes "_") or rule alpha_num)
body_of alpha = Range (codes "a") (codes "z") or Range (codes "A") (codes "Z")
body_of alpha_num = rule alpha or Range (codes "0") (codes "9")
body_of string = rule quote ~ rule inner_str ~ rule quote
body_of insensitive_string = Str (codes "^") ~ rule string
body_of range = rule character ~ rule range_operator ~ rule character
body_of character = rule single_quote ~ rule inner_chr ~ rule single_quote
body_of inner_str =
    Rep (NegPred (Str double_quote or Str backslash) ~ any) ~ Opt (rule escape ~ rule inner_str)
body_of inner_chr = rule escape or NegPred (Str (codes "'") or Str backslash) ~ any
body_of escape =
    Str backslash ~ (Str double_quote or Str backslash or Str (codes "r") or Str (codes "n")
    or Str (codes "t") or Str (codes "0") or Str (codes "'") or rule code or rule unicode)
body_of code = Str (codes "x") ~ rule hex_digit ~ rule hex_digit
body_of unicode = Str (codes "u") ~ rule opening_brace ~ RepMinMax (rule hex_digit) 2 6 ~ rule closing_brace
body_of hex_digit =
    Range (codes "0") (codes "9") or Range (codes "a") (codes "f") or Range (codes "A") (codes "F")
body_of quote = Str double_quote
body_of single_quote = Str (codes "'")
body_of range_operator = Str (codes "..")
body_of newline = Str line_feed or Str (carriage_return ++ line_feed)
body_of WHITESPACE = Str (codes " ") or Str tab or rule newline
body_of line_comment =
    Str (codes "//") ~ NegPred (Str (codes "/") or Str (codes "!")) ~ Rep (NegPred (rule newline) ~ any)
body_of block_comment =
    Str (codes "/*") ~ Rep (rule block_comment or NegPred (Str (codes "*/")) ~ any) ~ Str (codes "*/")
body_of COMMENT = rule block_comment or rule line_comment
body_of space = Str (codes " ") or Str tab
body_of grammar_doc = Str (codes "//!") ~ Opt (rule space) ~ rule inner_doc
body_of line_doc = Str (codes "///") ~ Opt (rule space) ~ rule inner_doc
body_of inner_doc = Rep (NegPred (rule newline) ~ any)

-- a rule of the meta-grammar, as grammars have them
abbrev pub rule_at : Rule → spec.Rule
rule_at r = record { name = name_of r; type_of = type_of_rule r; body = body_of r }

-- the whole grammar
unfoldable pub meta_grammar : Grammar
meta_grammar = map rule_at meta_rules
