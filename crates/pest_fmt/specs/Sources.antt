-- The files of the names of a command line.
use Rattle.std.specs.Prelude.{◌≡◌, ◌⊎◌, ℕ, List, [], ◌∷◌, ◌++◌, All, String, string_bytes}
use Rattle.std.specs.Borrow.{Bor}
use Rattle.std.specs.declared.alloc.Global.{Global}
use Rattle.program_support.specs.Folders.{IsGrammarName}

-- the files of a name: the one of that name, or the grammars of a folder
abbrev pub AreFilesOf : List ℕ → List (String Global) → Type 0
AreFilesOf name files = ((file : String Global) × (files ≡ file ∷ []) × (string_bytes file ≡ name))
    ⊎ All IsGrammarName files

-- the files of names, in order
pub data AreOfNames : List (Bor (List ℕ)) → List (String Global) → Type 0 where
  none : AreOfNames [] []
  more : {names : List (Bor (List ℕ))} {files : List (String Global)} (name : Bor (List ℕ))
      (its : List (String Global)) → AreOfNames names files → AreFilesOf name.now its
      → AreOfNames (names ++ name ∷ []) (files ++ its)

-- a list that gained files
abbrev pub Gain : (List (String Global) → Type 0) → List (String Global) → List (String Global) → Type 0
Gain p old new = (files : List (String Global)) × (new ≡ old ++ files) × p files
