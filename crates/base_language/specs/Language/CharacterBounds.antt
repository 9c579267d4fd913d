-- Rules whose ranges are ranges of characters.
use Rattle.std.specs.Prelude.{◌≡◌, length}
use Rattle.base_language.specs.Language.Expression.{Grammar, Range}
use Rattle.base_language.specs.Language.Text.{Text}
use Rattle.base_language.specs.Language.WellFormed.{InSomeRule}

-- both bounds of each range are one character
abbrev pub HasCharacterBounds : Grammar → Type 0
HasCharacterBounds g = (low high : Text) → InSomeRule g (Range low high)
    → (length low ≡ 1) × (length high ≡ 1)
