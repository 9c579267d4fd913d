-- Trees destructured into an operator and its operands.
use Rattle.std.specs.Prelude.{ℕ, ◌+◌, ◌*◌, ⊤}
use Rattle.base_ast.specs.declared.shape.Shape.{Shape}
use Rattle.base_ast.specs.declared.shape.Shape.TheVariants as is

-- `made` and `says` are the meanings of leaves and operands, `around` and `between` of operands in the
-- whole
module _ {L S J O M : Type 0} (made : L → M) (says : O → M) (around : S → M → M)
    (between : J → M → M → M) where
  -- the whole
  abbrev pub meaning_of : Shape L S J O → M
  meaning_of (is.Leaf x) = made x
  meaning_of (is.One s x) = around s (says x)
  meaning_of (is.Two j x y) = between j (says x) (says y)

-- how large the operands are, where left ones count double
abbrev pub heaviness_of : {L S J O : Type 0} → (O → ℕ) → Shape L S J O → ℕ
heaviness_of heaviness (is.Leaf x) = 0
heaviness_of heaviness (is.One s x) = heaviness x
heaviness_of heaviness (is.Two j x y) = 2 * heaviness x + heaviness y

-- a leaf is kept whole
abbrev pub LeafIs : {L S J O : Type 0} → (L → Type 0) → Shape L S J O → Type 0
LeafIs is_bare (is.Leaf x) = is_bare x
LeafIs is_bare _ = ⊤
