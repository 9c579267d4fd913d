-- Changes of texts.
use Rattle.std.specs.Prelude.{◌≡◌, ◌++◌, ℕ, List, [], ◌∷◌, MatchOption, max, take, drop}
use Rattle.server_protocol.specs.Positions.{IsOffset}
use Rattle.server_protocol.specs.declared.changes.Change.{Change}
use Rattle.server_protocol.specs.declared.positions.Encoding.{Encoding}
use Rattle.server_protocol.specs.declared.positions.Range.{Range}

-- a range of a text is replaced: before its start and after its end the text stays. A range whose end is
-- before its start is empty
pub record IsReplaced (encoding : Encoding) (text : List ℕ) (range : Range) (inserted changed : List ℕ)
    : Type 0 where
  pub start : ℕ
  pub end : ℕ
  pub is_start : IsOffset encoding text range.start start
  pub is_end : IsOffset encoding text range.end end
  pub parts : changed ≡ take start text ++ inserted ++ drop (max start end) text

-- a text after a change: with no range all of it is replaced
abbrev pub IsChanged : Encoding → List ℕ → Change → List ℕ → Type 0
IsChanged encoding text change changed = MatchOption change.range (changed ≡ change.text.now)
    (λ range. IsReplaced encoding text range change.text.now changed)

-- a text after changes, each of the text that the one before it left
abbrev pub AreChanged : Encoding → List ℕ → List Change → List ℕ → Type 0
AreChanged encoding text [] changed = changed ≡ text
AreChanged encoding text (change ∷ changes) changed =
    (next : List ℕ) × IsChanged encoding text change next × AreChanged encoding next changes changed
