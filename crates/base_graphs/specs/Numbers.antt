-- Lists of numbers.
use Rattle.std.specs.Prelude.{◌≡◌, ℕ, ◌<◌, List, Some, length, slice_get}

-- the numbers below a bound, in their order
pub record AreNumbers (count : ℕ) (ns : List ℕ) : Type 0 where
  pub long : length ns ≡ count
  pub each : (i : ℕ) → i < count → slice_get ns i ≡ Some i
