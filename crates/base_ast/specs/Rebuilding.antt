-- Trees that are built from other trees, an operand at a time.
use Rattle.std.specs.Prelude.{ℕ, ◌+◌, List, [], ◌∷◌, ⊤}
use Rattle.base_ast.specs.declared.rebuilt.Step.{Step}
use Rattle.base_ast.specs.declared.rebuilt.Step.TheVariants as is

-- `says` and `made` give the meaning of a tree, and `fills` that of an operand inside its context
module _ {S A T M : Type 0} (says : S → M) (made : T → M) (fills : A → M → M) where
  -- the meaning of a step
  abbrev pub meaning_of : Step S A T → M
  meaning_of (is.Made t) = made t
  meaning_of (is.Inside a s) = fills a (says s)

-- the meaning of an operand inside its contexts, the last of them innermost
abbrev pub filled : {A M : Type 0} → (A → M → M) → List A → M → M
filled fills [] m = m
filled fills (a ∷ others) m = fills a (filled fills others m)

-- how much is left to be done
module _ {S A T : Type 0} (size : S → ℕ) (waits : A → ℕ) where
  abbrev pub work_of : Step S A T → ℕ
  work_of (is.Made t) = 0
  work_of (is.Inside a s) = 1 + (waits a + size s)

abbrev pub waiting : {A : Type 0} → (A → ℕ) → List A → ℕ
waiting waits [] = 0
waiting waits (a ∷ others) = waits a + waiting waits others

-- the rest of a build satisfies its preconditions
module _ {S A T : Type 0} (is_right : S → Type 0) (is_ready : A → Type 0) where
  abbrev pub GoesOn : Step S A T → Type 0
  GoesOn (is.Made t) = ⊤
  GoesOn (is.Inside a s) = is_ready a × is_right s

abbrev pub AreReady : {A : Type 0} → (A → Type 0) → List A → Type 0
AreReady is_ready [] = ⊤
AreReady is_ready (a ∷ others) = is_ready a × AreReady is_ready others
