-- Forms of a program, and what they mean.
use Rattle.std.specs.Prelude.{[]}
use Rattle.base_language.specs.Language.Expression.{Expression, Grammar, Normal, Rule, Str}
use Rattle.matcher_program.specs.declared.form.Form.{Form}
use Rattle.matcher_program.specs.declared.form.Program.{Program}
use Rattle.matcher_program.specs.Programs.{IsBound, IsSound, expression_of, grammar_of, names_of}

-- the grammar of a program, and the names of its rules
abbrev pub grammar_in : Program → Grammar
grammar_in p = grammar_of p.rules.items

abbrev pub said : Program → Form → Expression
said p f = expression_of (names_of p.rules.items) f

-- a stand-in for a rule that a grammar does not have
abbrev pub no_rule : Rule
no_rule = record { name = []; type_of = Normal; body = Str [] }

-- the names in a form mean what they are resolved to
abbrev pub IsBoundIn : Program → Form → Type 0
IsBoundIn p f = IsBound (grammar_in p) (names_of p.rules.items) p.properties.items f

-- the names of the rules mean what they are resolved to
abbrev pub IsSoundProgram : Program → Type 0
IsSoundProgram p = IsSound p.rules.items p.properties.items p.whitespace p.comment
