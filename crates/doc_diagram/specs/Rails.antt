-- Rails: the lines of a diagram.
use Rattle.std.specs.Prelude.{◌≡◌, ℕ, List, [], ◌∷◌, ◌++◌, fold}
use Rattle.std.specs.List.{flat_map}
use Rattle.doc_markup.specs.declared.tokens.Markup.{Markup}
use Rattle.doc_markup.specs.declared.tokens.Markup.TheVariants as token
use Rattle.doc_markup.specs.declared.vocabulary.Attribute.TheVariants as attribute
use Rattle.doc_markup.specs.declared.vocabulary.PathCommand.{PathCommand}
use Rattle.doc_markup.specs.declared.vocabulary.PathCommand.TheVariants as path
use Rattle.doc_markup.specs.declared.vocabulary.Tag.TheVariants as tag
use Rattle.doc_diagram.specs.declared.boxes.Point.{Point}

-- a line to the right or to the left, one up or down, or a curve around a corner to a point
pub data Stroke : Type 0 where
  Across : ℕ → Stroke
  Along : ℕ → Stroke
  Curve : Point → Point → Stroke

abbrev pub point : ℕ → ℕ → Point
point x y = record { x = x; y = y }

-- where a stroke from a point ends
abbrev pub end_of : Point → Stroke → Point
end_of from (Across x) = record from { x = x }
end_of from (Along y) = record from { y = y }
end_of from (Curve corner to) = to

-- the tokens of a command to a point, and of a stroke
abbrev pub command_to : PathCommand → Point → List Markup
command_to command to =
    token.Command command ∷ token.Number to.x ∷ token.Command path.Separator ∷ token.Number to.y ∷ []

abbrev pub stroke_tokens : Stroke → List Markup
stroke_tokens (Across x) = token.Command path.HorizontalTo ∷ token.Number x ∷ []
stroke_tokens (Along y) = token.Command path.VerticalTo ∷ token.Number y ∷ []
stroke_tokens (Curve corner to) = command_to path.CurveTo corner ++ command_to path.Separator to

-- an element that draws strokes from a point
abbrev pub rail_start : Point → List Markup
rail_start from = token.Open tag.Path ∷ token.Attribute attribute.Commands ∷ command_to path.MoveTo from

abbrev pub rail_end : List Markup
rail_end = token.Quote ∷ token.EmptyTagEnd ∷ []

-- tokens gain a rail from a point to another one
pub record GainsRail (from to : Point) (old new : List Markup) : Type 0 where
  pub strokes : List Stroke
  pub drawn : new ≡ old ++ (rail_start from ++ (flat_map stroke_tokens strokes ++ rail_end))
  pub leads : fold end_of from strokes ≡ to
