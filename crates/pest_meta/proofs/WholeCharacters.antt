-- The trees of a text stand on its characters.
use Rattle.std.proofs.Common.{ℕ, ◌≤◌, List, [], false, chars, arith, refl}
use Rattle.std.proofs.lemmas.Str.{IsUtf8-between}
use Rattle.std.specs.Bool.{⊤}
use Rattle.std.specs.List.{slice_range}
use Rattle.std.specs.Str.{IsUtf8}
use Rattle.base_language.specs.Language.Places.{Nested, IsStateIn}
use Rattle.base_language.specs.Language.State.{Classes, Trees, None', Tree}
use Rattle.base_language.proofs.InBytes.{on_bytes}
use Rattle.base_language.proofs.TreesAreNested.{fits}
use Rattle.front_grammar.specs.Outcomes.{start_of}
use Rattle.pest_meta.specs.Spelling.{HasTrees}

-- what is written at each tree is a text
abbrev pub OnCharacters : List ℕ → Trees → Type 0
OnCharacters text None' = ⊤
OnCharacters text (Tree r i j inner others) =
    IsUtf8 (slice_range text i j) × OnCharacters text inner × OnCharacters text others

module _ (text : List ℕ) (utf8 : IsUtf8 text) where
  in_order : (us : Trees) (i j : ℕ) → Nested (chars text) us i j → i ≤ j
  in_order None' i j n = n
  in_order (Tree r a b inner others) i j n =
      omega (arith, n.0, in_order inner a b n.3, in_order others b j n.4)

  on_characters : (us : Trees) (i j : ℕ) → Nested (chars text) us i j → OnCharacters text us
  on_characters None' i j n = tt
  on_characters (Tree r a b inner others) i j n =
      let here = IsUtf8-between text a b utf8 (in_order inner a b n.3) (on_bytes text utf8 a n.1) (on_bytes text utf8 b n.2) in
      (here, on_characters inner a b n.3, on_characters others b j n.4)

  no_classes : Classes
  no_classes n c = false

  starts : IsStateIn (chars text) (start_of text)
  starts = record { front = []; split = refl; size = refl }

  pub trees_on_characters : (us : Trees) → HasTrees text us → OnCharacters text us
  trees_on_characters us h =
      let x = h no_classes in
      on_characters us 0 x.0.position (fits (chars text) x.1 starts).1
