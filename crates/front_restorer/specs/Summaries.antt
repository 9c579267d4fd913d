-- Summaries of bodies, and the rules that change the stack by them.
use Rattle.std.specs.Prelude.{◌≡◌, ◌≤◌, ◌||◌, ℕ, List, [], Option, Some, None, Bool, slice_get, slice_range, length}
use Rattle.std.specs.Borrow.{Bor}
use Rattle.std.specs.List.{list_any}
use Rattle.base_language.specs.Language.Text.{Text}
use Rattle.base_language.specs.Language.Expression.{Expression}
use Rattle.base_ast.specs.Optimized.{optimized_expression_of}
use Rattle.base_graphs.specs.Least as least
use Rattle.base_graphs.specs.Least.{Follows}
use Rattle.front_restorer.specs.Bodies.{NamedBody}
use Rattle.front_restorer.specs.Calls.{names_in, number_changes}
use Rattle.front_restorer.specs.Changing.{changes_by, is_changer}
use Rattle.front_restorer.specs.Names.{Numbers, numbers_of}
use Rattle.front_restorer.specs.declared.names.Names.{Names}
use Rattle.front_restorer.specs.declared.summaries.Summaries.{Summaries}
use Rattle.front_restorer.specs.declared.summaries.Summary.{Summary}

-- the numbers of a share are in the list
pub record IsWithin (qs : Numbers) (s : Summary) : Type 0 where
  pub start : s.start ≤ s.end
  pub end : s.end ≤ length qs

abbrev pub AreWithin : Summaries → Type 0
AreWithin n = (i : ℕ) (s : Summary) → slice_get n.shares.items i ≡ Some s → IsWithin n.numbers.items s

-- a `PUSH`, `PUSH_LITERAL`, `POP`, `POP_ALL` or `DROP` occurs, or a rule that changes the stack
abbrev pub shows : Numbers → (ℕ → Bool) → Summary → Bool
shows qs p s = s.changes || list_any (number_changes p) (slice_range qs s.start s.end)

-- the numbers that are collected for names, if names are known
abbrev pub numbers_if_known : Option (Bor Names) → List Text → Numbers
numbers_if_known (Some names) ns = numbers_of names.now ns
numbers_if_known None ns = []

-- the share of an expression says whether the expression changes the stack by itself, and has the numbers
-- of its names
pub record IsSummaryOf (names : Names) (e : Expression) (qs : Numbers) (s : Summary) : Type 0 where
  pub changes : s.changes ≡ changes_by is_changer e
  pub within : IsWithin qs s
  pub numbers : slice_range qs s.start s.end ≡ numbers_of names (names_in e)

-- the shares are those of the bodies
pub record AreSummariesOf (names : Names) (bodies : List NamedBody) (n : Summaries) : Type 0 where
  pub alike : length n.shares.items ≡ length bodies
  pub noted : (i : ℕ) (b : NamedBody) (s : Summary)
      → slice_get bodies i ≡ Some b → slice_get n.shares.items i ≡ Some s
      → IsSummaryOf names (optimized_expression_of b.1) n.numbers.items s

-- a rule changes the stack by itself, or calls one that does
abbrev pub Holds : Summaries → ℕ → Type 0
Holds n = Follows (shows n.numbers.items) n.shares.items

-- as many flags as rules, and every flag is right
abbrev pub AreSound : Summaries → List Bool → Type 0
AreSound n = least.AreSound (shows n.numbers.items) n.shares.items

-- every rule that changes the stack by the flags has its own flag set
abbrev pub AreClosed : Summaries → List Bool → Type 0
AreClosed n = least.AreClosed (shows n.numbers.items) n.shares.items
