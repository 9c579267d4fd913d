-- The lines on standard error about files.
use Rattle.std.specs.Prelude.{◌≡◌, ◌⊎◌, ℕ, List, ◌++◌, Bool, true, None, Option, Some, String, codes, string_bytes}
use Rattle.std.specs.declared.alloc.Global.{Global}
use Rattle.std.specs.Io.KnownBytes.{Appends}
use Rattle.lint_output.specs.Visible.{visible}
use Rattle.pest_lint.specs.declared.lint.Source.{Source}

-- that an allocation failed at a file
abbrev pub memory_line : Source → List ℕ
memory_line source = codes "out of memory at " ++ (visible (string_bytes source.name) ++ codes "\n")

-- why a file can't be read: the words of the system, if there are any
abbrev pub reason : Option (String Global) → List ℕ
reason None = codes "it is not UTF-8"
reason (Some why) = string_bytes why

-- that a file can't be read
abbrev pub unreadable_line : Source → List ℕ
unreadable_line source = codes "cannot read "
    ++ (visible (string_bytes source.name) ++ (codes ": " ++ (reason source.why ++ codes "\n")))

-- a writer gained a line, or refused a write, or gained nothing, as when an allocation fails
abbrev pub Tells : List ℕ → Option (List ℕ) → Option (List ℕ) → Bool → Type 0
Tells line old new refused = Appends old new line ⊎ ((refused ≡ true) ⊎ (new ≡ old))
