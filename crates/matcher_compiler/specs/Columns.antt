-- The columns of the table of a choice.
use Rattle.std.specs.Prelude.{◌≡◌, ◌<◌, ℕ, Some, get_or, length}
use Rattle.matcher_code.specs.Laid.{label_for}
use Rattle.matcher_code.specs.Lists.{CodeLists}
use Rattle.matcher_code.specs.Reading.{flag}
use Rattle.matcher_compiler.specs.declared.points.Branch.{Branch}
use Rattle.matcher_compiler.specs.declared.columns.Columns.{Columns}

-- the flags of the first alternative's set, and the labels of the table
pub record AreColumns (code : CodeLists) (x : Branch) (columns : Columns) : Type 0 where
  pub flags_long : length columns.flags.now ≡ 256
  pub labels_long : length columns.labels.now ≡ 256
  pub flags : (b : ℕ) → b < 256 → get_or columns.flags.now b 0 ≡ flag code x.set b
  pub labels : (b : ℕ) → b < 256 → get_or columns.labels.now b 0 ≡ label_for code x.table (Some b)
