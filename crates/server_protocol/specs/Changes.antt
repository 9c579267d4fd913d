-- The changes in parameters.
use Rattle.std.specs.Prelude.{◌≡◌, ◌⊎◌, ◌++◌, ◌∷◌, ℤ, List, Option, Some, None, option_and_then, option_map, codes}
use Rattle.std.specs.List.{AllZip}
use Rattle.server_protocol.specs.declared.changes.Change.{Change}
use Rattle.server_protocol.specs.declared.positions.Position.{Position}
use Rattle.server_protocol.specs.declared.positions.Range.{Range}
use Rattle.server_protocol.specs.Asked.{position_in, text_in}
use Rattle.serde_json.specs.Data.{Data, Items}
use Rattle.serde_json.specs.Find.{as_array, as_i64, as_number, get, pointer}
use Rattle.serde_json.specs.View.{items_of}

-- the range of two positions
abbrev pub range_from : Option Position → Option Position → Option Range
range_from None end = None
range_from (Some start) None = None
range_from (Some start) (Some end) = Some (record { start = start; end = end })

-- a range, if it has a start and an end
abbrev pub range_in : Data → Option Range
range_in d = range_from (option_and_then position_in (get (codes "start") d))
    (option_and_then position_in (get (codes "end") d))

-- the range in parameters
abbrev pub asked_range : Data → Option Range
asked_range d = option_and_then range_in (get (codes "range") d)

-- the range of a change, if it has one; none if that is no range
abbrev pub range_if : Option Data → Option (Option Range)
range_if None = Some None
range_if (Some d) = option_map Some (range_in d)

abbrev pub changed_range : Data → Option (Option Range)
changed_range d = range_if (get (codes "range") d)

-- a change has the text of an object, and its range if it has one
pub record IsChangeIn (d : Data) (change : Change) : Type 0 where
  pub text : text_in (codes "/text") d ≡ Some change.text.now
  pub range : changed_range d ≡ Some change.range

-- an object without a text, or whose range is none, is no change
abbrev pub IsNoChange : Data → Type 0
IsNoChange d = (text_in (codes "/text") d ≡ None) ⊎ (changed_range d ≡ None)

abbrev pub HasNoChange : List Data → Type 0
HasNoChange values = (before : List Data) × (value : Data) × (after : List Data)
    × (values ≡ before ++ value ∷ after) × IsNoChange value

-- the list of changes in parameters
abbrev pub listed_changes : Data → Option Items
listed_changes params = option_and_then as_array (get (codes "contentChanges") params)

-- the changes in parameters
pub record AreChangesIn (params : Data) (changes : List Change) : Type 0 where
  pub values : List Data
  pub listed : listed_changes params ≡ Some (items_of values)
  pub each : AllZip IsChangeIn values changes

-- parameters list no changes, or one that is none
abbrev pub LacksChanges : Data → Type 0
LacksChanges params = (listed_changes params ≡ None)
    ⊎ ((values : List Data) × (listed_changes params ≡ Some (items_of values)) × HasNoChange values)

-- an integer
abbrev pub integer_in : Data → Option ℤ
integer_in d = option_and_then as_i64 (as_number d)

-- the version in parameters
abbrev pub version_in : Data → Option ℤ
version_in params = option_and_then integer_in (pointer (codes "/textDocument/version") params)
