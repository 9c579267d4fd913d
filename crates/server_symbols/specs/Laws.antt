-- What is found by a name has that name.
use Rattle.std.specs.Prelude.{ℕ, List, All}
use Rattle.server_symbols.specs.Occurrences.{names_of, occurrences}
use Rattle.server_symbols.specs.Parts.{IsNamed}
use Rattle.server_symbols.specs.declared.outline.Definition.{Definition}
use Rattle.server_symbols.specs.declared.tokens.Token.{Token}

abbrev pub OccurrencesAreNamed : Type 0
OccurrencesAreNamed = (text name : List ℕ) (tokens : List Token)
    → All (IsNamed text name) (occurrences text name tokens)

abbrev pub DefinitionsAreNamed : Type 0
DefinitionsAreNamed = (text name : List ℕ) (definitions : List Definition)
    → All (IsNamed text name) (names_of text name definitions)
