-- Compiled grammars with the names of their rules, and outcomes of their runs.
use Rattle.std.specs.Prelude.{◌≡◌, List, [], ℕ, None, false, map}
use Rattle.std.specs.Borrow.{Bor}
use Rattle.std.specs.Global.{Vec}
use Rattle.std.specs.Str.{chars}
use Rattle.base_ast.specs.Optimized.{optimized_rules_of}
use Rattle.base_ast.specs.declared.optimized.OptimizedRule.{OptimizedRule}
use Rattle.base_language.specs.Language.Expected.{expected_at}
use Rattle.base_language.specs.Language.Expression.{Grammar, rule_of}
use Rattle.base_language.specs.Language.FurthestFailure.{furthest}
use Rattle.base_language.specs.Language.State.{Failure, Outcome}
use Rattle.matcher_code.specs.Attempts.{attempts_at}
use Rattle.matcher_code.specs.Paths.{paths_at}
use Rattle.matcher_code.specs.declared.state.OpenCall.{OpenCall}
use Rattle.matcher_compiler.specs.Names.{number_in}
use Rattle.matcher_engine.specs.Blocks.{HasRules, IsBlockOf, IsWhole, operations_in}
use Rattle.matcher_engine.specs.BlockRuns.{IsStopped}
use Rattle.matcher_engine.specs.declared.block.runs.BlockStop.{BlockStop}
use Rattle.matcher_engine.specs.declared.block.runs.BlockStop.TheVariants as stop
use Rattle.matcher_engine.specs.FailureAttempts.{attempt_place}
use Rattle.matcher_engine.specs.FailurePaths.{with_each}
use Rattle.matcher_engine.specs.Walks.{AreNamesOf}
use Rattle.matcher_program.specs.Answers.{Has, start_of}
use Rattle.matcher_program.specs.ExpectedNames.{each_once, name_texts}
use Rattle.matcher_support.specs.Sets.{is_in_property}
use Rattle.matcher_support.specs.declared.attempts.NamedAttempts.{NamedAttempts}
use Rattle.matcher_support.specs.declared.compiled.CompiledGrammar.{CompiledGrammar}

-- the block of optimized rules, if property names have the sets of Unicode
pub record IsCompiled (rules : List OptimizedRule) (block : List ℕ) : Type 0 where
  pub whole : IsWhole block
  pub code : IsBlockOf (optimized_rules_of rules) is_in_property block
  pub has : HasRules block rules

-- the block of a grammar, and the names of its rules in order
pub record IsCompiledOf (g : Grammar) (it : CompiledGrammar) : Type 0 where
  pub code : IsBlockOf g is_in_property it.block.now
  pub names : AreNamesOf g it.names.items

-- the number of operations of the code for matches
abbrev pub operations_of : CompiledGrammar → ℕ
operations_of it = operations_in it.block.now

-- the names are those that are expected at a place of the text, each once, in the order of the calls
abbrev pub AreExpectedIn : Grammar → List ℕ → List ℕ → ℕ → List (Bor (List ℕ)) → Type 0
AreExpectedIn g rule text place names = (o : Outcome) × (d : Has g (chars rule) text is_in_property o)
    × (name_texts names ≡ each_once (expected_at place d))

-- the names are those of the rules that an error of pest names on the text, each once, in the order of the
-- calls, and this is its place
pub record AreAttemptsIn (g : Grammar) (rule text : List ℕ) (it : NamedAttempts) : Type 0 where
  pub outcome : Outcome
  pub found : Has g (chars rule) text is_in_property outcome
  pub place : it.place ≡ attempt_place found
  pub positives : name_texts it.positives.items ≡ each_once (attempts_at false it.place found).positives
  pub negatives : name_texts it.negatives.items ≡ each_once (attempts_at false it.place found).negatives

-- the lists of calls that are open where a rule is expected at a place, by the numbers of their rules, each
-- list once, in the order of the calls
abbrev pub ArePathsIn : Grammar → (rule text : List ℕ) → ℕ → List (Vec OpenCall) → Type 0
ArePathsIn g rule text place paths = (o : Outcome) × (d : Has g (chars rule) text is_in_property o)
    × (map (λ p. p.items) paths ≡ with_each (number_in g) [] (paths_at place d))

-- the rule of the grammar fails on the text, and this is the furthest place of a failure
abbrev pub FailsIn : Grammar → List ℕ → List ℕ → ℕ → Type 0
FailsIn g rule text place = (d : Has g (chars rule) text is_in_property Failure) × (place ≡ furthest d)

-- why a run, of at most a given number of steps, has no answer if a failure has one
abbrev pub IsUnanswered : Grammar → List ℕ → List ℕ → ℕ → BlockStop → Type 0
IsUnanswered g rule text steps (stop.NoMatch place) = ⊥
IsUnanswered g rule text steps (stop.Stopped why) =
    IsStopped g (chars rule) (start_of text) is_in_property steps why
IsUnanswered g rule text steps stop.NoRule = rule_of g (chars rule) ≡ None
IsUnanswered g rule text steps (stop.Flaw flaw) = ⊥

-- why a run gives no match: the rule fails, or there is no answer
abbrev pub IsRefusedBy : Grammar → List ℕ → List ℕ → ℕ → BlockStop → Type 0
IsRefusedBy g rule text steps (stop.NoMatch place) = FailsIn g rule text place
IsRefusedBy g rule text steps why = IsUnanswered g rule text steps why
