-- It is decided whether an expression stands for strings.
use Rattle.std.proofs.Common.{◌≡◌, refl, List, [], ◌∷◌, Bool, true, false, ◌&&◌, ◌⊎◌, inl, inr}
use Rattle.std.proofs.lemmas.Bool.{and_parts}
use Rattle.base_language.specs.Language.Text.{Text}
use Rattle.base_language.specs.Language.Expression.{Expression, Str, Ident, Choice, Grammar}
use Rattle.base_language.specs.Rewritings.Rewriting.{Strings, one, named, more, literal, name}
use Rattle.pest_meta.proofs.LeastNames.{Least, least}

-- whether an expression stands for strings, given the names that do
abbrev has_strings : (Text → Bool) → Expression → Bool
has_strings p (Str t) = true
has_strings p (Ident n) = p n
has_strings p (Choice (Str t) e) = has_strings p e
has_strings p (Choice (Ident n) e) = p n && has_strings p e
has_strings p _ = false

both : (a b : Bool) → a ≡ true → b ≡ true → (a && b) ≡ true
both a b h k = rw (h, k) refl

module _ (g : Grammar) where
  abbrev HasStrings : Expression → Type 0
  HasStrings e = (ts : List Text) × Strings g e ts

  read : (p : Text → Bool) → ((n : Text) → p n ≡ true → HasStrings (Ident n)) → (e : Expression) → has_strings p e ≡ true → HasStrings e
  read p f (Str t) h = (t ∷ [], one)
  read p f (Ident n) h = f n h
  read p f (Choice (Str t) e) h = let d = read p f e h in (_, more literal one d.1)
  read p f (Choice (Ident n) e) h =
      let k = and_parts (p n) (has_strings p e) h in
      let c = f n k.0 in
      let d = read p f e k.1 in (_, more name c.1 d.1)
  read p f _ h = cc

  the_least : Least g has_strings HasStrings read (λ n r e d. (d.0, named e d.1))
  the_least = least g has_strings HasStrings read (λ n r e d. (d.0, named e d.1))

  complete : {e : Expression} {ts : List Text} → Strings g e ts → has_strings the_least.names e ≡ true
  complete one = refl
  complete (named {n = n} {r = r} e d) = the_least.is_closed.closed n r e (complete d)
  complete (more literal c d) = complete d
  complete (more {e = e} (name {n = n}) c d) = both (the_least.names n) (has_strings the_least.names e) (complete c) (complete d)

  pub strings_decided : (e : Expression) → HasStrings e ⊎ ((ts : List Text) → Strings g e ts → ⊥)
  strings_decided e = go (has_strings the_least.names e) refl
    where
      go : (b : Bool) → has_strings the_least.names e ≡ b → HasStrings e ⊎ ((ts : List Text) → Strings g e ts → ⊥)
      go true h = inl (read the_least.names the_least.sound e h)
      go false h = inr (λ ts d. let k = complete d in cc)
