-- Restored rules.
use Rattle.std.specs.Prelude.{◌≡◌, List, Bool, false, map}
use Rattle.std.specs.Bool.{Decides}
use Rattle.std.specs.HashMap.{HashMap}
use Rattle.std.specs.List.{All}
use Rattle.std.specs.declared.alloc.Global.{Global}
use Rattle.std.specs.declared.string.String.{String}
use Rattle.base_language.specs.Language.Text.{Text}
use Rattle.base_language.specs.Language.Expression.{Expression, Ident, RestoreOnErr, Rule, Grammar}
use Rattle.base_language.specs.Rewritings.Erased.{erased}
use Rattle.base_language.specs.Rewritings.Rewriting.{EachBody}
use Rattle.base_language.specs.Rewritings.Wrapping.{ChangesStack}
use Rattle.base_language.specs.Language.WellFormed.{InSomeRule}
use Rattle.base_ast.specs.Ast.{text_of}
use Rattle.base_ast.specs.Optimized.{optimized_expression_of}
use Rattle.base_ast.specs.declared.optimized.OptimizedRule.{OptimizedRule}
use Rattle.base_ast.specs.declared.optimized.OptimizedExpr.{OptimizedExpr}
use Rattle.front_restorer.specs.Bodies.{HoldsOptimizedBodies}
use Rattle.front_restorer.specs.Changing.{changes_by, is_changer, restored_by}

-- no wrapper occurs in a rule of the list
abbrev pub HaveNoWrappers : Grammar → Type 0
HaveNoWrappers g = (e : Expression) → InSomeRule g (RestoreOnErr e) → ⊥

-- rule by rule, bodies are the same without wrappers; names, types and order stay
abbrev pub AreSameErased : Grammar → Grammar → Type 0
AreSameErased = EachBody (λ y a b. erased b ≡ erased a)

-- no `PUSH`, `PUSH_LITERAL`, `POP`, `POP_ALL` or `DROP` occurs in the body of a rule, not below a wrapper
abbrev pub IsQuiet : OptimizedRule → Type 0
IsQuiet r = changes_by is_changer (optimized_expression_of r.expr) ≡ false

abbrev pub AreQuiet : List OptimizedRule → Type 0
AreQuiet rs = All IsQuiet rs

abbrev pub restored_rule_by : (Text → Bool) → Rule → Rule
restored_rule_by p r = record r { body = restored_by p r.body }

abbrev pub restored_rules_by : (Text → Bool) → Grammar → Grammar
restored_rules_by p g = map (restored_rule_by p) g

-- b is a with wrappers, put from the inside out round what changes the stack; a may have some of its own. A
-- name changes the stack just where the rules of the map have it do so
pub record IsRestored {S : Type 0} (rules : HashMap (String Global) OptimizedExpr S) (a b : Expression)
    : Type 0 where
  pub changes : Text → Bool
  pub decides : (g : Grammar) → HoldsOptimizedBodies rules g → (n : String Global)
      → Decides (changes (text_of n)) (ChangesStack g (Ident (text_of n)))
  pub is_restored : b ≡ restored_by changes a

-- the rules of h are those of g with wrappers, put as in `IsRestored`. A name changes the stack just where the
-- rules of g have it do so
pub record AreRestored (g h : Grammar) : Type 0 where
  pub changes : Text → Bool
  pub decides : (n : String Global) → Decides (changes (text_of n)) (ChangesStack g (Ident (text_of n)))
  pub are_restored : h ≡ restored_rules_by changes g
