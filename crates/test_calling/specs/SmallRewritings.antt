-- The listing of one expression, and the strings of another.
use Rattle.std.specs.Prelude.{◌≡◌, [], ◌∷◌, codes, map}
use Rattle.base_language.specs.Language.Expression.{Str, Ident, Choice, Normal, Rule, Grammar}
use Rattle.base_language.specs.Rewritings.Listing.{listed}
use Rattle.base_language.specs.Rewritings.Rewriting.{Strings}
use Rattle.test_calling.specs.SmallGrammars.{spelled_body, listed_body, spelled_grammar, listed_grammar}

abbrev pub listed_rule : Rule → Rule
listed_rule r = record r { body = listed r.body }

-- the listing of ("a" ~ "b")* ~ "a" is "a" ~ ("b" ~ "a")*, and that of its grammar the listed one
pub record ListingIsComputed : Type 0 where
  pub body : listed spelled_body ≡ listed_body
  pub grammar : map listed_rule spelled_grammar ≡ listed_grammar

-- a = { "x" }  b = { "yz" }
abbrev pub two_literals : Grammar
two_literals =
    record { name = codes "a"; type_of = Normal; body = Str (codes "x") }
    ∷ record { name = codes "b"; type_of = Normal; body = Str (codes "yz") }
    ∷ []

-- the strings of `a | b` as a choice of literals, in order
abbrev pub StringsOfNames : Type 0
StringsOfNames =
    Strings two_literals (Choice (Ident (codes "a")) (Ident (codes "b"))) (codes "x" ∷ codes "yz" ∷ [])
