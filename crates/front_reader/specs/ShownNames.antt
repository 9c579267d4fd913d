-- The names of the meta-grammar's rules that errors show.
use Rattle.std.specs.Prelude.{ℕ, List, codes}
use Rattle.base_language.specs.Pieces.MetaRules.{name_of}
use Rattle.base_language.specs.declared.grammar.Rule.{Rule}
use Rattle.base_language.specs.declared.grammar.Rule.TheVariants.{grammar_rule, assignment_operator, opening_brace, closing_brace, opening_paren, closing_paren, opening_brack, closing_brack, silent_modifier, atomic_modifier, compound_atomic_modifier, non_atomic_modifier, positive_predicate_operator, negative_predicate_operator, sequence_operator, choice_operator, optional_operator, repeat_operator, repeat_once_operator, comma, _push, _push_literal, insensitive_string, quote, single_quote, range_operator, grammar_doc, line_doc}

-- a mark between grave accents, a word or a comment's start; any other rule is called by its own name
abbrev pub shown_name : Rule → List ℕ
shown_name grammar_rule = codes "rule"
shown_name assignment_operator = codes "`=`"
shown_name opening_brace = codes "`{`"
shown_name closing_brace = codes "`}`"
shown_name opening_paren = codes "`(`"
shown_name closing_paren = codes "`)`"
shown_name opening_brack = codes "`[`"
shown_name closing_brack = codes "`]`"
shown_name silent_modifier = codes "`_`"
shown_name atomic_modifier = codes "`@`"
shown_name compound_atomic_modifier = codes "`$`"
shown_name non_atomic_modifier = codes "`!`"
shown_name positive_predicate_operator = codes "`&`"
shown_name negative_predicate_operator = codes "`!`"
shown_name sequence_operator = codes "`&`"
shown_name choice_operator = codes "`|`"
shown_name optional_operator = codes "`?`"
shown_name repeat_operator = codes "`*`"
shown_name repeat_once_operator = codes "`+`"
shown_name comma = codes "`,`"
shown_name _push = codes "PUSH"
shown_name _push_literal = codes "PUSH_LITERAL"
shown_name insensitive_string = codes "`^`"
shown_name quote = codes "`\"`"
shown_name single_quote = codes "`'`"
shown_name range_operator = codes "`..`"
shown_name grammar_doc = codes "//!"
shown_name line_doc = codes "///"
shown_name rule = name_of rule
