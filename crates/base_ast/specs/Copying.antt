-- The context of an operand while a tree is copied.
use Rattle.std.specs.Prelude.{ℕ, ◌+◌, ◌*◌}
use Rattle.base_ast.specs.declared.shape.copying.Around.{Around}
use Rattle.base_ast.specs.declared.shape.copying.Around.TheVariants as is

-- the meaning of the whole, from that of the operand
module _ {T S J M : Type 0} (says : T → M) (around : S → M → M) (between : J → M → M → M) where
  abbrev pub with_operand : Around T S J → M → M
  with_operand (is.Sign s) m = around s m
  with_operand (is.First j right) m = between j m (says right.now.value)
  with_operand (is.Second j left) m = between j (says left.value.value) m

-- how much there is to be done once the operand is copied
abbrev pub waits_of : {T S J : Type 0} → (T → ℕ) → Around T S J → ℕ
waits_of heaviness (is.First j right) = 4 * heaviness right.now.value + 3
waits_of heaviness _ = 1
