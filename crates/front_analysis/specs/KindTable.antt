-- The inference of a question: when a node's answer is yes, by the kinds of nodes.
use Rattle.std.specs.Prelude.{◌≡◌, ℕ, List, Option, Some, None, Bool, true, false, ◌&&◌, ◌||◌, slice_get, ⊤}
use Rattle.front_analysis.specs.declared.kind_table.NodeKind.{NodeKind}
use Rattle.front_analysis.specs.declared.kind_table.NodeKind.TheVariants as is
use Rattle.front_analysis.specs.declared.kind_table.Question.{Question}
use Rattle.front_analysis.specs.declared.kind_table.Question.TheVariants as asks

abbrev pub is_of_taking : Question → Bool
is_of_taking asks.TakesNothing = true
is_of_taking asks.CannotFail = false

abbrev pub at_root : (ℕ → Bool) → Option ℕ → Bool
at_root p None = false
at_root p (Some j) = p j

-- whether a node's answer is yes, by the answers of others
abbrev pub fires : Question → List ℕ → (ℕ → Bool) → NodeKind → Bool
fires q roots p is.Taking = false
fires q roots p is.Still = true
fires q roots p is.End = is_of_taking q
fires q roots p (is.Call r) = at_root p (slice_get roots r)
fires q roots p (is.EndCall r) = is_of_taking q || at_root p (slice_get roots r)
fires q roots p (is.Ahead j) = is_of_taking q || p j
fires q roots p (is.NotAhead j) = is_of_taking q
fires q roots p (is.Free j) = true
fires q roots p (is.Inside j) = p j
fires q roots p (is.Again j) = true
fires q roots p (is.OnceAgain j) = p j
fires q roots p (is.Seq j k) = p j && p k
fires q roots p (is.Choice j k) = p j || p k

-- two assignments agree at this node, if there is one
abbrev pub AgreeAt : (ℕ → Bool) → (ℕ → Bool) → Option ℕ → Type 0
AgreeAt p r None = ⊤
AgreeAt p r (Some j) = p j ≡ r j
