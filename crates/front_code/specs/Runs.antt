-- Results of rules on texts, by runs of their code.
use Rattle.std.specs.Prelude.{◌≡◌, ℕ, List, [], Option, None, Some, map}
use Rattle.base_language.specs.Language.Expected.{expected_at}
use Rattle.base_language.specs.Language.FurthestFailure.{furthest}
use Rattle.base_language.specs.Language.State.{Classes, Failure, State, Success, Trees}
use Rattle.base_language.specs.declared.grammar.Rule.{Rule}
use Rattle.front_grammar.specs.Outcomes.{Recognizes}
use Rattle.matcher_code.specs.Reached.{nodes_of}
use Rattle.matcher_code.specs.Steps.{insert_rules}
use Rattle.front_code.specs.Numbers.{number_of}
use Rattle.front_code.specs.declared.runs.RuleRun.{RuleRun}

-- the rule matches the start of a text, with the end, the trees and the names of the run
pub record HasMatched (rule : Rule) (text : List ℕ) (place : ℕ) (run : RuleRun) (end : ℕ) (classes : Classes)
    : Type 0 where
  pub state : State
  pub trees : Trees
  pub found : Recognizes rule text classes (Success state trees)
  pub ends : end ≡ state.position
  pub nodes : run.trees.items ≡ nodes_of number_of 0 trees
  pub names : run.names.items ≡ insert_rules [] (map number_of (expected_at place found))

-- the rule fails there, with the furthest failure and the names of the run
pub record HasFailed (rule : Rule) (text : List ℕ) (place : ℕ) (run : RuleRun) (classes : Classes)
    : Type 0 where
  pub found : Recognizes rule text classes Failure
  pub furthest : run.furthest ≡ furthest found
  pub names : run.names.items ≡ insert_rules [] (map number_of (expected_at place found))

-- the run is one of the rule on the text, where names are asked for at a position
abbrev pub HasEnded : Rule → List ℕ → ℕ → RuleRun → Option ℕ → Type 0
HasEnded rule text place run (Some end) = (classes : Classes) → HasMatched rule text place run end classes
HasEnded rule text place run None = (classes : Classes) → HasFailed rule text place run classes

abbrev pub IsRunOf : Rule → List ℕ → ℕ → RuleRun → Type 0
IsRunOf rule text place run = HasEnded rule text place run run.end

-- a run that is asked for no names
pub record IsMatch (rule : Rule) (text : List ℕ) (run : RuleRun) (end : ℕ) (classes : Classes) : Type 0 where
  pub state : State
  pub trees : Trees
  pub found : Recognizes rule text classes (Success state trees)
  pub ends : end ≡ state.position
  pub nodes : run.trees.items ≡ nodes_of number_of 0 trees

pub record IsFailure (rule : Rule) (text : List ℕ) (run : RuleRun) (classes : Classes) : Type 0 where
  pub found : Recognizes rule text classes Failure
  pub furthest : run.furthest ≡ furthest found

abbrev pub Parses : Rule → List ℕ → RuleRun → Option ℕ → Type 0
Parses rule text run (Some end) = (classes : Classes) → IsMatch rule text run end classes
Parses rule text run None = (classes : Classes) → IsFailure rule text run classes

abbrev pub IsParseOf : Rule → List ℕ → RuleRun → Type 0
IsParseOf rule text run = Parses rule text run run.end
