-- Answers of the calls on compiled grammars.
use Rattle.std.specs.Prelude.{◌≡◌, ◌⊎◌, ℕ, List, [], ◌-◌, ◌^◌, Result, Ok, Err, None, Option, Some, chars, drop, if◌then◌else◌, nat_eq, ⊤}
use Rattle.std.specs.Str.{IsCharBoundary, IsUtf8}
use Rattle.base_ast.specs.Optimized.{optimized_rules_of}
use Rattle.base_ast.specs.declared.optimized.OptimizedRule.{OptimizedRule}
use Rattle.base_language.specs.Language.Expression.{Grammar, last_place}
use Rattle.base_language.specs.Language.State.{Classes, State}
use Rattle.base_language.specs.Language.Text.{Text}
use Rattle.matcher_code.specs.declared.state.OpenCall.{OpenCall}
use Rattle.matcher_code.specs.declared.state.TreeNode.{TreeNode}
use Rattle.matcher_engine.specs.Blocks.{HasRules, IsBlockOf, IsWhole}
use Rattle.matcher_engine.specs.BlockRuns.{AreExpected, ArePaths, IsOutcome, IsRefusal}
use Rattle.matcher_engine.specs.FailureAttempts.{AreAttempts}
use Rattle.matcher_engine.specs.declared.attempts.Attempts.{Attempts}
use Rattle.matcher_engine.specs.declared.block.head.BlockFlaw.TheVariants as flaw
use Rattle.matcher_engine.specs.declared.block.runs.BlockStop.{BlockStop}
use Rattle.matcher_engine.specs.declared.block.runs.BlockStop.TheVariants as stop
use Rattle.matcher_engine.specs.declared.matcher.ParseTree.{ParseTree}
use Rattle.matcher_program.specs.Refusals.{IsReason}
use Rattle.matcher_program.specs.declared.answers.Stop.TheVariants as limit
use Rattle.matcher_program.specs.declared.compile.Unfit.{Unfit}
use Rattle.matcher_program.specs.declared.compile.Unfit.TheVariants as unfit
use Rattle.matcher_support.specs.Sets.{has_set}
use Rattle.pest_meta_c.specs.PathCalls.{calls_in}
use Rattle.pest_meta_c.specs.declared.paths.PathCall.{PathCall}

-- the bytes are a text, and the place is before one of its characters or at its end
abbrev pub HasStart : List ℕ → ℕ → Type 0
HasStart text from = IsUtf8 text × IsCharBoundary text from

-- a place of a text, with the empty stack
abbrev pub state_from : List ℕ → ℕ → State
state_from text from = record { position = from; rest = chars (drop from text); stack = [] }

-- the statuses of blocks that give no match
abbrev pub status_of : BlockStop → ℕ
status_of (stop.NoMatch place) = 1
status_of (stop.Stopped limit.Memory) = 2
status_of (stop.Flaw flaw.NoBlock) = 5
status_of stop.NoRule = 7
status_of (stop.Stopped limit.OutOfSteps) = 8
status_of (stop.Stopped limit.EmptyStack) = 9
status_of (stop.Stopped limit.TextTooLong) = 10
status_of (stop.Flaw flaw.OtherVersion) = 11
status_of (stop.Flaw flaw.Changed) = 12

-- nodes, a position and a status report an outcome
abbrev pub Tells : Result ParseTree BlockStop → List TreeNode → ℕ → ℕ → Type 0
Tells (Ok it) nodes end status = (status ≡ 0) × (nodes ≡ it.trees.items) × (end ≡ it.end)
Tells (Err (stop.NoMatch place)) nodes end status = (status ≡ 1) × (end ≡ place)
Tells (Err why) nodes end status = status ≡ status_of why

-- the limit that a number of steps stands for: none, if it is the greatest number
abbrev pub limit_in : ℕ → Option ℕ
limit_in steps = if nat_eq steps (2 ^ 64 - 1) then None else Some steps

-- they report the outcome of the rule of a number from a place of a text
pub record IsTold (block : List ℕ) (rule : ℕ) (text : List ℕ) (from steps : ℕ) (nodes : List TreeNode)
    (end status : ℕ) : Type 0 where
  pub outcome : Result ParseTree BlockStop
  pub told : Tells outcome nodes end status
  pub is : (g : Grammar) (classes : Classes) → IsBlockOf g classes block → (n : Text)
      → last_place g n ≡ Some rule → IsOutcome g n (state_from text from) classes steps outcome

-- the numbers of the rules that are expected at a place
abbrev pub AreTold : (block : List ℕ) (rule : ℕ) (text : List ℕ) (from place steps : ℕ) → List ℕ → Type 0
AreTold block rule text from place steps rules = (g : Grammar) (classes : Classes) → IsBlockOf g classes block
    → (n : Text) → last_place g n ≡ Some rule
    → AreExpected g n (state_from text from) classes steps place rules

-- the calls that are open where those rules are expected, path by path
pub record ArePathsTold (block : List ℕ) (rule : ℕ) (text : List ℕ) (from place steps : ℕ)
    (calls : List PathCall) : Type 0 where
  pub paths : List (List OpenCall)
  pub told : calls ≡ calls_in 0 paths
  pub are : (g : Grammar) (classes : Classes) → IsBlockOf g classes block → (n : Text)
      → last_place g n ≡ Some rule → ArePaths g n (state_from text from) classes steps place paths

-- a place and the numbers of rules that pest's error names there, expected and not
pub record AreAttemptsTold (block : List ℕ) (rule : ℕ) (text : List ℕ) (from place : ℕ)
    (positives negatives : List ℕ) : Type 0 where
  pub attempts : Attempts
  pub place_is : place ≡ attempts.place
  pub positives_are : positives ≡ attempts.positives.items
  pub negatives_are : negatives ≡ attempts.negatives.items
  pub are : (g : Grammar) (classes : Classes) → IsBlockOf g classes block → (n : Text)
      → last_place g n ≡ Some rule → AreAttempts g n (state_from text from) classes attempts

-- a status reports why a rule of a number has no answer from a place of a text
pub record IsRefusalTold (block : List ℕ) (rule : ℕ) (text : List ℕ) (from steps status : ℕ) : Type 0 where
  pub why : BlockStop
  pub told : status ≡ status_of why
  pub is : (g : Grammar) (classes : Classes) → IsBlockOf g classes block → (n : Text)
      → last_place g n ≡ Some rule → IsRefusal g n (state_from text from) classes steps why

-- the reason is one of the rules
abbrev pub IsOfRules : Unfit → Type 0
IsOfRules unfit.Memory = ⊥
IsOfRules (unfit.UnknownName name) = ⊤
IsOfRules (unfit.Bound text) = ⊤

-- there is a reason to refuse the rules
abbrev pub AreUnfit : Grammar → Type 0
AreUnfit g = (why : Unfit) × IsOfRules why × IsReason has_set g why

-- the block of optimized rules
pub record IsCompiled (rules : List OptimizedRule) (classes : Classes) (block : List ℕ) : Type 0 where
  pub code : IsBlockOf (optimized_rules_of rules) classes block
  pub whole : IsWhole block
  pub has : HasRules block rules

-- the statuses of optimized rules as a block: 0 for the block, 2 for an allocation failure, 6 for rules that
-- can't be run
abbrev pub IsBlockStatus : ℕ → Type 0
IsBlockStatus status = (status ≡ 0) ⊎ ((status ≡ 2) ⊎ (status ≡ 6))
