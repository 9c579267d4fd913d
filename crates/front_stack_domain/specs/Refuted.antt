-- Repetitions that are not definite.
use Rattle.std.specs.Prelude.{[], ◌∷◌, codes}
use Rattle.base_language.specs.Language.Expression.{Expression, Ident, Seq, Rep, RepExact, Grammar, Normal}

-- a = { (PEEK_ALL*){2} }, where all turns end if the stack has a text that does not follow in the input
abbrev pub peeked : Expression
peeked = Rep (Ident (codes "PEEK_ALL"))

abbrev pub peeked_twice : Expression
peeked_twice = RepExact peeked 2

-- a = { POP_ALL ~ PEEK }: PEEK has no outcome there, and is no repetition
abbrev pub top : Expression
top = Ident (codes "PEEK")

abbrev pub top_of_none : Expression
top_of_none = Seq (Ident (codes "POP_ALL")) top

-- the grammar that has such a rule alone
abbrev pub alone : Expression → Grammar
alone e = record { name = codes "a"; type_of = Normal; body = e } ∷ []
