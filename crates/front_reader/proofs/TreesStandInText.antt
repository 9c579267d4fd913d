-- Where trees stand.
use Rattle.std.proofs.Common.{◌≤◌, ℕ, List, arith}
use Rattle.base_language.specs.Language.Text.{Text}
use Rattle.base_language.specs.Language.State.{Trees, None', Tree}
use Rattle.base_language.specs.Pieces.NamedTrees.{named}
use Rattle.base_language.specs.Pieces.TokenTrees.{TokenTrees, NoTokens, Token, AreNested}
use Rattle.base_language.specs.declared.grammar.Rule.{Rule}
use Rattle.front_reader.specs.Pieces.{IsPiece, NestedInBytes, AreInText}

module _ (text : List ℕ) where
  pub nested_order : (us : Trees) (i j : ℕ) → NestedInBytes text us i j → i ≤ j
  nested_order None' i j h = h
  nested_order (Tree r a b inner others) i j h = omega (arith, h.0, nested_order inner a b h.3, nested_order others b j h.4)

  pub nested_from : (us : Trees) (i k j : ℕ) → i ≤ k → NestedInBytes text us k j → NestedInBytes text us i j
  nested_from None' i k j h n = omega (arith, h, n)
  nested_from (Tree r a b inner others) i k j h n = (omega (arith, h, n.0), n.1, n.2, n.3, n.4)

-- the first tree of some that stand in the text
pub first_piece : {text : List ℕ} {r : Text} {a b : ℕ} {inner others : Trees}
    → AreInText text (Tree r a b inner others) → IsPiece text a b
first_piece {text} {r} {a} {b} {inner} h = record { starts = h.nested.1; ends = h.nested.2; order = nested_order text inner a b h.nested.3 }

-- what stands in the first, and what stands behind it
pub stand_inner : {text : List ℕ} {r : Text} {a b : ℕ} {inner others : Trees}
    → AreInText text (Tree r a b inner others) → AreInText text inner
stand_inner {a = a} {b = b} h = record { from = a; to = b; nested = h.nested.3 }

pub stand_behind : {text : List ℕ} {r : Text} {a b : ℕ} {inner others : Trees}
    → AreInText text (Tree r a b inner others) → AreInText text others
stand_behind {b = b} h = record { from = b; to = h.to; nested = h.nested.4 }

-- the first tree without what is behind it
pub stand_alone : {text : List ℕ} {r : Text} {a b : ℕ} {inner others : Trees}
    → AreInText text (Tree r a b inner others) → AreInText text (Tree r a b inner None')
stand_alone {b = b} h = record { from = h.from; to = b; nested = (h.nested.0, h.nested.1, h.nested.2, h.nested.3, omega arith) }

-- nested trees of tokens, with their rules by name
pub nested_named : (text : List ℕ) (us : TokenTrees Rule) (i j : ℕ) → AreNested text us i j
    → NestedInBytes text (named us) i j
nested_named text NoTokens i j h = h
nested_named text (Token r a b inner others) i j h = (h.0.0, h.0.1.0, h.0.1.1, nested_named text inner a b h.1.0, nested_named text others b j h.1.1)
