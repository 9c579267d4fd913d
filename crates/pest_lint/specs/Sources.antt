-- The files that are read for the names of a command line.
use Rattle.std.specs.Prelude.{◌≡◌, ◌⊎◌, ℕ, List, [], ◌∷◌, ◌++◌, All, IsSome, string_bytes}
use Rattle.std.specs.Borrow.{Bor}
use Rattle.program_support.specs.Folders.{IsGrammarName}
use Rattle.pest_lint.specs.declared.lint.Source.{Source}

-- one of a folder: a file with the name of a grammar, or one that can't be read
abbrev pub IsOfFolder : Source → Type 0
IsOfFolder source = IsGrammarName source.name ⊎ IsSome source.why

-- the files of a name: the one of that name, or those of a folder
abbrev pub AreFilesOf : List ℕ → List Source → Type 0
AreFilesOf name files = ((file : Source) × (files ≡ file ∷ []) × (string_bytes file.name ≡ name))
    ⊎ All IsOfFolder files

-- the files of names, in order
pub data AreOfNames : List (Bor (List ℕ)) → List Source → Type 0 where
  none : AreOfNames [] []
  more : {names : List (Bor (List ℕ))} {sources : List Source} (name : Bor (List ℕ)) (files : List Source)
      → AreOfNames names sources → AreFilesOf name.now files
      → AreOfNames (names ++ name ∷ []) (sources ++ files)

-- sources that gained files
abbrev pub Gain : (List Source → Type 0) → List Source → List Source → Type 0
Gain p old new = (files : List Source) × (new ≡ old ++ files) × p files
