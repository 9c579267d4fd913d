-- Names of wrappers.
use Rattle.std.specs.Prelude.{ℕ, [], ◌∷◌, ◌++◌, Option, Some, None, ◌==◌, if◌then◌else◌}
use Rattle.std.specs.Fmt.{decimal}
use Rattle.base_language.specs.Language.Text.{Text}

-- a number, `#`, and a tag
abbrev pub wrapper_name : ℕ → Text → Text
wrapper_name k t = decimal k ++ 35 ∷ t

-- the tag in the name of a wrapper follows the first `#`; the name of a rule of a grammar has none
abbrev pub tag_in : Text → Option Text
tag_in [] = None
tag_in (c ∷ n) = if c == 35 then Some n else tag_in n
