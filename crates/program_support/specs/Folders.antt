-- The names of grammars.
use Rattle.std.specs.Prelude.{◌≡◌, ℕ, List, ◌++◌, String, codes, string_bytes}
use Rattle.std.specs.declared.alloc.Global.{Global}

-- a name that ends with `.pest`
abbrev pub EndsInPest : List ℕ → Type 0
EndsInPest name = (stem : List ℕ) × (name ≡ stem ++ codes ".pest")

abbrev pub IsGrammarName : String Global → Type 0
IsGrammarName name = EndsInPest (string_bytes name)
