-- Trees that are to be compared.
use Rattle.std.specs.Prelude.{ℕ, ◌+◌, Bool, true, ◌&&◌, List, [], ◌∷◌}
use Rattle.base_ast.specs.declared.sameness.Both.{Both}
use Rattle.base_ast.specs.declared.sameness.Comparison.{Comparison}
use Rattle.base_ast.specs.declared.sameness.Comparison.TheVariants as left

-- `is_equal` is whether two trees are
module _ {T : Type 0} (is_equal : T → T → Bool) where
  abbrev pub are_both : Both T → Bool
  are_both p = is_equal p.first.now.value p.second.now.value

  -- whether all are, two by two
  abbrev pub are_equal : List (Both T) → Bool
  are_equal [] = true
  are_equal (p ∷ ps) = are_both p && are_equal ps

  -- whether two trees are equal, by the comparisons that remain
  abbrev pub is_same : Comparison T → Bool
  is_same (left.Nothing answer) = answer
  is_same (left.One p answer) = answer && are_both p
  is_same (left.Two p q) = are_both p && are_both q

-- `heaviness` is how large a tree is
module _ {T : Type 0} (heaviness : T → ℕ) where
  -- how much there is to be compared
  abbrev pub heaviness_of_all : List (Both T) → ℕ
  heaviness_of_all [] = 0
  heaviness_of_all (p ∷ ps) = heaviness p.first.now.value + heaviness_of_all ps

  -- how much is left to be
  abbrev pub heaviness_left : Comparison T → ℕ
  heaviness_left (left.Nothing answer) = 0
  heaviness_left (left.One p answer) = heaviness p.first.now.value
  heaviness_left (left.Two p q) = heaviness p.first.now.value + heaviness q.first.now.value
