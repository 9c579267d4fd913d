-- Names of no rule of the meta-grammar.
use Rattle.std.specs.Prelude.{◌≢◌, ℕ, List}
use Rattle.base_language.specs.Pieces.MetaRules.{name_of}
use Rattle.base_language.specs.declared.grammar.Rule.{Rule}

-- no rule has the name
abbrev pub IsOfNoRule : List ℕ → Type 0
IsOfNoRule name = (rule : Rule) → name_of rule ≢ name
