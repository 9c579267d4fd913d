-- Lists that gain files.
use Rattle.std.proofs.Common.{◌≡◌, ◌∙◌, ℕ, List, [], ◌∷◌, ◌++◌, All, append_assoc, ap, inl, inr, refl, string_bytes, subst, sym}
use Rattle.std.specs.Prelude.{String}
use Rattle.std.specs.Borrow.{Bor}
use Rattle.std.specs.declared.alloc.Global.{Global}
use Rattle.pest_fmt.specs.Sources.AreOfNames.{more}
use Rattle.pest_fmt.specs.Sources.{AreFilesOf, AreOfNames, Gain}
use Rattle.program_support.specs.Folders.{IsGrammarName}

-- the file of a name alone, or those of a folder
pub gain_file : (name : List ℕ) (old new : List (String Global)) (file : String Global)
    → new ≡ old ++ file ∷ [] → string_bytes file ≡ name → Gain (AreFilesOf name) old new
gain_file name old new file e named = (file ∷ [], e, inl (file, refl, named))

pub gain_folder : (name : List ℕ) (old new : List (String Global))
    → Gain (All IsGrammarName) old new → Gain (AreFilesOf name) old new
gain_folder name old new g = (g.0, g.1, inr g.2)

-- one more name
pub more_names : (names now : List (Bor (List ℕ))) (name : Bor (List ℕ)) (first old new : List (String Global))
    → now ≡ names ++ name ∷ [] → Gain (AreOfNames names) first old → Gain (AreFilesOf name.now) old new
    → Gain (AreOfNames now) first new
more_names names now name first old new e before g = (
  before.0 ++ g.0,
  g.1 ∙ (ap (λ xs. xs ++ g.0) before.1 ∙ append_assoc first before.0 g.0),
  subst (λ xs. AreOfNames xs (before.0 ++ g.0)) (sym e) (more name g.0 before.2 g.2),
)
