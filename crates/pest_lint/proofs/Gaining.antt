-- Lists that gain files.
use Rattle.std.proofs.Common.{◌≡◌, ◌∙◌, ℕ, List, [], ◌∷◌, ◌++◌, All, ap, append_assoc, inl, inr, refl, string_bytes, subst, sym}
use Rattle.std.proofs.lemmas.List.{append-nil}
use Rattle.std.proofs.lemmas.List.Elements.{All-append, All-cons, All-nil}
use Rattle.std.specs.Borrow.{Bor}
use Rattle.pest_lint.specs.Sources.AreOfNames.{more}
use Rattle.pest_lint.specs.Sources.{AreFilesOf, AreOfNames, Gain, IsOfFolder}
use Rattle.pest_lint.specs.declared.lint.Source.{Source}

pub gain_none : (P : Source → Type 0) (xs : List Source) → Gain (All P) xs xs
gain_none P xs = ([], sym (append-nil xs), All-nil P)

pub gain_one : (P : Source → Type 0) (old new : List Source) (x : Source)
    → new ≡ old ++ x ∷ [] → P x → Gain (All P) old new
gain_one P old new x e p = (x ∷ [], e, All-cons P x [] p (All-nil P))

pub gain_more : (P : Source → Type 0) (old now new : List Source)
    → Gain (All P) old now → Gain (All P) now new → Gain (All P) old new
gain_more P old now new g h =
    (g.0 ++ h.0, h.1 ∙ ap (λ xs. xs ++ h.0) g.1 ∙ append_assoc old g.0 h.0, All-append P g.0 h.0 g.2 h.2)

-- the file of a name alone, or those of a folder
pub gain_file : (name : List ℕ) (old new : List Source) (x : Source)
    → new ≡ old ++ x ∷ [] → string_bytes x.name ≡ name → Gain (AreFilesOf name) old new
gain_file name old new x e named = (x ∷ [], e, inl (x, refl, named))

pub gain_folder : (name : List ℕ) (old new : List Source)
    → Gain (All IsOfFolder) old new → Gain (AreFilesOf name) old new
gain_folder name old new g = (g.0, g.1, inr g.2)

-- one more name
pub more_names : (names now : List (Bor (List ℕ))) (name : Bor (List ℕ)) (old new : List Source)
    → now ≡ names ++ name ∷ [] → AreOfNames names old → Gain (AreFilesOf name.now) old new → AreOfNames now new
more_names names now name old new e before g =
    subst (λ xs. AreOfNames xs new) (sym e)
    (subst (λ ys. AreOfNames (names ++ name ∷ []) ys) (sym g.1) (more name g.0 before g.2))
