-- The tagged trees that a match by wrapped rules shows.
use Rattle.std.specs.Prelude.{◌≡◌, ◌<◌, ◌^◌, ℕ, All, length, Option, Some, None, []}
use Rattle.base_language.specs.Language.Text.{Text}
use Rattle.base_language.specs.Language.Expression.{Grammar, Rule}
use Rattle.base_language.specs.Language.State.{Classes, State, Trees, None', Tree, Outcome, Success, Failure}
use Rattle.base_language.specs.Language.Meaning.{Does, Task}
use Rattle.matcher_support.specs.Names.{tag_in}
use Rattle.matcher_support.specs.Wrapped.{wrapped_rules}
use Rattle.matcher_support.specs.Tags.{TaggedTrees, with_tag, with_tree}

-- one tree more: the trees inside a wrapper take its place, and the last tree so far gets its tag
abbrev pub with_next : Option Text → Text → ℕ → ℕ → (TaggedTrees → TaggedTrees) → TaggedTrees → TaggedTrees
with_next None n i j inside us = with_tree n i j inside us
with_next (Some t) n i j inside us = with_tag t (inside us)

-- trees with those of wrappers among them, after tagged trees
abbrev pub spliced : Trees → TaggedTrees → TaggedTrees
spliced None' us = us
spliced (Tree n i j inner others) us = spliced others (with_next (tag_in n) n i j (spliced inner) us)

-- an outcome with other trees
abbrev pub with_trees : Trees → Outcome → Outcome
with_trees vs Failure = Failure
with_trees vs (Success t us) = Success t vs

-- no rule's name is one of a wrapper
abbrev pub HasNoMark : Rule → Type 0
HasNoMark r = tag_in r.name ≡ None

-- rules whose tags can be wrapped
pub record CanWrap (g : Grammar) : Type 0 where
  pub names : All HasNoMark g
  pub few : length (wrapped_rules g []).1 < 2 ^ 64

-- a task from a state has, by wrapped rules, the outcome o with trees that show these tagged trees
pub record Shows (g : Grammar) (classes : Classes) (k : Task) (s : State) (o : Outcome)
    (tags : TaggedTrees → TaggedTrees) : Type 0 where
  pub trees : Trees
  pub found : Does g classes k s (with_trees trees o)
  pub same : (us : TaggedTrees) → tags us ≡ spliced trees us
