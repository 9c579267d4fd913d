-- Files with fixes.
use Rattle.std.specs.Prelude.{◌≡◌, ◌⊎◌, Bool, List}
use Rattle.base_language.specs.Language.Text.{Text}
use Rattle.lint_diagnostics.specs.Fixing.{IsMended}
use Rattle.pest_lint.specs.declared.lint.Source.{Source}

-- a file's name stays, and its bytes do, or they become those of its text with fixes, unsafe ones or not
pub record IsKept (takes : Bool) (starts : List Text) (old new : Source) : Type 0 where
  pub name : new.name ≡ old.name
  pub why : new.why ≡ old.why
  pub bytes : (new.bytes.items ≡ old.bytes.items)
      ⊎ IsMended takes starts old.bytes.items new.bytes.items
