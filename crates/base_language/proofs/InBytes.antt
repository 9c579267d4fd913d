-- From places on characters to places on bytes.
use Rattle.std.proofs.Common.{◌≡◌, refl, sym, ap, ◌∙◌, ℕ, ◌≤◌, List, [], ◌∷◌, ◌++◌, length, Bool, true, false, ◌&&◌, arith}
use lib.Utf8.{scalar, scalars}
use Rattle.std.specs.Prelude.{IsUtf8, encode_utf8, encode_utf8_all}
use Rattle.std.specs.Str.{chars, IsCharBoundary}
use Rattle.std.specs.Char.{len_utf8}
use Rattle.std.proofs.Math.Utf8.{encodes}
use Rattle.std.proofs.lemmas.List.{length-append}
use Rattle.std.proofs.lemmas.List.Sums.{sum_by-cons}
use Rattle.std.proofs.lemmas.Str.{encodes-append, encodes-chars, length-encode, scalars-chars, IsCharBoundary-at_seam}
use Rattle.base_language.specs.Language.Text.{Text, IsPosition, size_of}
use Rattle.base_language.specs.Language.Places.{Nested, IsStateIn}
use Rattle.base_language.specs.Language.State.{State}
use Rattle.base_language.specs.Pieces.TokenTrees.{TokenTrees, NoTokens, Token, AreNested}
use Rattle.base_language.specs.Pieces.NamedTrees.{named}
use Rattle.base_language.specs.declared.grammar.Rule.{Rule}

-- the characters take as many bytes as they are written in
pub sizes : (cs : Text) → size_of cs ≡ length (encodes cs)
sizes [] = refl
sizes (c ∷ cs) = rw (sum_by-cons len_utf8 c cs, sizes cs, length-append (encode_utf8 c) (encode_utf8_all cs), length-encode c) refl

scalars_back : (front back : Text) → scalars (front ++ back) ≡ true → scalars back ≡ true
scalars_back [] back h = h
scalars_back (c ∷ front) back h = scalars_back front back (and_true_right (scalar c) (scalars (front ++ back)) h)
  where
    and_true_right : (a b : Bool) → (a && b) ≡ true → b ≡ true
    and_true_right true b h = h
    and_true_right false b h = cc

module _ (text : List ℕ) (utf8 : IsUtf8 text) where
  pub split_bytes : (front back : Text) → chars text ≡ front ++ back → text ≡ encodes front ++ encodes back
  split_bytes front back e = sym (encodes-chars text utf8) ∙ (ap encodes e ∙ encodes-append front back)

  pub on_bytes : (place : ℕ) → IsPosition (chars text) place → IsCharBoundary text place
  on_bytes place p =
      let e : length (encodes p.front) ≡ place = sym (p.size ∙ sizes p.front) in
      let h : IsCharBoundary text (length (encodes p.front)) = IsCharBoundary-at_seam text (encodes p.front) (encodes p.back) (split_bytes p.front p.back p.split) (p.back, (scalars_back p.front p.back (ap scalars (sym p.split) ∙ scalars-chars text utf8), refl)) in
      rw e at h

  pub nested_bytes : (trees : TokenTrees Rule) (from to : ℕ) → Nested (chars text) (named trees) from to → AreNested text trees from to
  nested_bytes NoTokens from to n = n
  nested_bytes (Token rule start end_ inner others) from to n =
      ((n.0, (on_bytes start n.1, on_bytes end_ n.2)), (nested_bytes inner start end_ n.3, nested_bytes others end_ to n.4))

  pub ends_within : (s : State) → IsStateIn (chars text) s → s.position ≤ length text
  ends_within s h =
      let e = ap length (split_bytes h.front s.rest h.split) ∙ length-append (encodes h.front) (encodes s.rest) in
      omega (arith, e, h.size, sizes h.front)
