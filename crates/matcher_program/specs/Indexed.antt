-- Rules with their numbers by name.
use Rattle.std.specs.Prelude.{ℕ, List}
use Rattle.std.specs.HashMap.{HashMap, get_by_text}
use Rattle.std.specs.Str.{IsUtf8, chars}
use Rattle.std.specs.declared.alloc.Global.{Global}
use Rattle.std.specs.declared.string.String.{String}
use Rattle.std.specs.declared.hash.FoldHasher.{FoldHasher}
use Rattle.std.specs.declared.hash.BuildHasherDefault.{BuildHasherDefault}
use Rattle.base_language.specs.Language.Expression.{Grammar}
use Rattle.matcher_program.specs.Programs.{IsSkippedRule}

-- texts and numbers
abbrev pub Numbers : Type 0
Numbers = HashMap (String Global) ℕ (BuildHasherDefault FoldHasher)

-- for each name the map has the number of the last rule of that name
abbrev pub KnowsLast : Grammar → Numbers → Type 0
KnowsLast g numbers = (name : List ℕ) → IsUtf8 name
    → IsSkippedRule g (chars name) (get_by_text numbers name)
