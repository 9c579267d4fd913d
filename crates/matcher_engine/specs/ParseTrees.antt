-- Matches by their trees in preorder.
use Rattle.std.specs.Prelude.{◌≡◌, ℕ}
use Rattle.base_language.specs.Language.Expression.{Grammar}
use Rattle.base_language.specs.Language.FurthestFailure.{furthest}
use Rattle.base_language.specs.Language.State.{Classes, State, Success, Trees}
use Rattle.base_language.specs.Language.Text.{Text}
use Rattle.matcher_code.specs.Reached.{nodes_of}
use Rattle.matcher_program.specs.Answers.{HasAt}
use Rattle.matcher_compiler.specs.Names.{number_in}
use Rattle.matcher_engine.specs.declared.matcher.ParseTree.{ParseTree}

-- the rule gives trees from a state, which are these in preorder, ends there, and this is the furthest
-- position of a failure
pub record HasParseTree (g : Grammar) (n : Text) (s : State) (classes : Classes) (it : ParseTree) : Type 0
  where
    pub state : State
    pub trees : Trees
    pub found : HasAt g n s classes (Success state trees)
    pub ends : it.end ≡ state.position
    pub nodes : it.trees.items ≡ nodes_of (number_in g) 0 trees
    pub place : it.furthest ≡ furthest found

-- the rule succeeds from a state, and its match ends there
pub record HasEnd (g : Grammar) (n : Text) (s : State) (classes : Classes) (end : ℕ) : Type 0 where
  pub state : State
  pub trees : Trees
  pub found : HasAt g n s classes (Success state trees)
  pub ends : end ≡ state.position
