-- What is found by a name has that name.
use Rattle.std.proofs.Common.{◌≡◌, ℕ, List, [], ◌∷◌, Bool, true, false, cond, refl, All, bytes_eq}
use Rattle.std.proofs.lemmas.List.Elements.{All-append, All-cons, All-nil}
use Rattle.std.proofs.lemmas.Bool.Decides.{Decides-at}
use Rattle.std.proofs.lemmas.Bool.{and_parts}
use Rattle.std.proofs.lemmas.Slice.Eq.{bytes_eq-Decides}
use Rattle.server_symbols.specs.Occurrences.{extent_of, is_name, is_occurrence, names_of, occurrences}
use Rattle.server_symbols.specs.Parts.{IsNamed, part}
use Rattle.server_symbols.specs.declared.outline.Definition.{Definition}
use Rattle.server_symbols.specs.declared.tokens.Extent.{Extent}
use Rattle.server_symbols.specs.declared.tokens.Token.{Token}

same_bytes : (a b : List ℕ) → bytes_eq a b ≡ true → a ≡ b
same_bytes a b e = (Decides-at _ _ refl (bytes_eq-Decides a b)).0 e

one_named : (P : Extent → Type 0) (extent : Extent) (b : Bool) → (b ≡ true → P extent) → All P (cond b (extent ∷ []) [])
one_named P extent true h = All-cons P extent [] (h refl) (All-nil P)
one_named P extent false h = All-nil P

pub names_named : (text name : List ℕ) (ds : List Definition) → All (IsNamed text name) (names_of text name ds)
names_named text name [] = All-nil (IsNamed text name)
names_named text name (d ∷ ds) = All-append (IsNamed text name) _ _ (one_named (IsNamed text name) d.name (bytes_eq (part text d.name) name) (same_bytes (part text d.name) name)) (names_named text name ds)

pub occurrences_named : (text name : List ℕ) (ts : List Token) → All (IsNamed text name) (occurrences text name ts)
occurrences_named text name [] = All-nil (IsNamed text name)
occurrences_named text name (t ∷ ts) = All-append (IsNamed text name) _ _ (one_named (IsNamed text name) (extent_of t) (is_occurrence text name t) (λ e. same_bytes (part text (extent_of t)) name ((and_parts (is_name t.class) _ e).1))) (occurrences_named text name ts)
