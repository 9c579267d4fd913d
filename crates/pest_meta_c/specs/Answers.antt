-- The answers of the calls, as bytes of JSON, in binary form or as numbers.
use Rattle.std.specs.Prelude.{◌≡◌, ℕ, List, [], ◌∷◌, ◌++◌, None, length}
use Rattle.std.specs.Borrow.{Bor}
use Rattle.serde_json.specs.Written.{compact_text}
use Rattle.base_ast.specs.Ast.{rules_of}
use Rattle.base_ast.specs.Optimized.{optimized_rules_of}
use Rattle.base_ast.specs.declared.ast.Rule as bare_rule
use Rattle.base_ast.specs.declared.optimized.OptimizedRule.{OptimizedRule}
use Rattle.base_language.specs.Language.State.{Trees}
use Rattle.base_language.specs.Language.WellFormed.{HasReadableCounts, IsPlain}
use Rattle.base_language.specs.Pieces.MetaRules.{name_of}
use Rattle.base_language.specs.Pieces.Saying.{AreErrorsFor, piece}
use Rattle.base_language.specs.declared.grammar.Rule.{Rule}
use Rattle.base_language.specs.declared.runtime.errors.Error.{Error}
use Rattle.format_binary.specs.Format.{names_bytes, optimized_rules_bytes, rules_bytes}
use Rattle.format_binary.specs.Tokens.{token_numbers}
use Rattle.format_json.specs.Errors.{answer_data, errors_data, names_data}
use Rattle.format_json.specs.Format.{optimized_rules_data, rules_data}
use Rattle.format_json.specs.Placed.{placed_rules_data}
use Rattle.format_json.specs.Reading as reading
use Rattle.format_json.specs.Tokens.{tokens_data}
use Rattle.format_json.specs.Versions.{version_data}
use Rattle.front_names.specs.GrammarNames.{AreWrittenAt, calls, definitions, first_calls}
use Rattle.front_names.specs.Names.{rust_keyword_complaints}
use Rattle.front_spanned.specs.Nodes.{rule_views}
use Rattle.front_spanned.specs.declared.node.ParserRule.{ParserRule}
use Rattle.front_optimizer.specs.Passes.{IsOptimized}
use Rattle.front_reader.specs.Flaws.{first_flaw}
use Rattle.front_reader.specs.Reading.{ReadsRules}
use Rattle.front_restorer.specs.Agreeing.{AgreesLoosely, WrappersSuffice}
use Rattle.front_stack_loops.specs.Certain.{AreReports}
use Rattle.front_syntax.specs.TokenEvents as events
use Rattle.front_syntax.specs.Parses.{AreTokensOf}
use Rattle.front_syntax.specs.declared.events.TokenEvent.{TokenEvent}
use Rattle.pest_meta.specs.Promises.{AreBuiltinsOf, EndsFromEverywhere, HasOutcomesOf, IsWellFormedGrammar, OfRead, OfSpelled}
use Rattle.pest_meta.specs.Spelling.{AreAccepted, HasRefusal, HasTrees, IsAnswer, SpellsGrammar, complaints_in}

-- the bytes are the tokens of a text for the rule of that name
pub record AreTokens (text name json : List ℕ) : Type 0 where
  pub rule : Rule
  pub named : name_of rule ≡ name
  pub tokens : List TokenEvent
  pub given : AreTokensOf rule text tokens
  pub whole : events.IsWhole 0 (events.named_events tokens)
  pub written : json ≡ compact_text (tokens_data tokens)

-- the numbers are the tokens of a text for the rule of that name
pub record AreTokenNumbers (text name numbers : List ℕ) : Type 0 where
  pub rule : Rule
  pub named : name_of rule ≡ name
  pub tokens : List TokenEvent
  pub given : AreTokensOf rule text tokens
  pub whole : events.IsWhole 0 (events.named_events tokens)
  pub written : numbers ≡ token_numbers tokens

-- the bytes are the builtins that a grammar uses: its names are in order, and these are those that it calls
-- and doesn't define, each once, in the order of their first calls
pub record AreNames (text json : List ℕ) : Type 0 where
  pub trees : Trees
  pub of_text : HasTrees text trees
  pub well_named : complaints_in text trees ≡ []
  pub names : List (Bor (List ℕ))
  pub uses : AreWrittenAt (first_calls (definitions text trees) (calls text trees)) names
  pub written : json ≡ compact_text (names_data names)

-- the bytes are the errors of a name as a keyword of Rust: one, at the whole of it, if it is one, and else
-- none
pub record AreKeywordErrors (name json : List ℕ) : Type 0 where
  pub errors : List (Error Rule)
  pub tell : AreErrorsFor (rust_keyword_complaints (piece name 0 (length name) ∷ [])) errors
  pub written : json ≡ compact_text (errors_data [] errors)

-- the bytes are the rules that a grammar's text spells: nothing is wrong with them
pub record AreRules (text json : List ℕ) : Type 0 where
  pub trees : Trees
  pub of_text : HasTrees text trees
  pub rules : List bare_rule.Rule
  pub accepted : AreAccepted text trees (rules_of rules)
  pub counts : HasReadableCounts (rules_of rules)
  pub written : json ≡ compact_text (rules_data rules)

-- the bytes are the rules that a grammar's text spells, with the spans of their names and nodes
pub record AreNodes (text json : List ℕ) : Type 0 where
  pub trees : Trees
  pub of_text : HasTrees text trees
  pub flawless : first_flaw text trees ≡ None
  pub rules : List ParserRule
  pub read : ReadsRules text trees (rule_views rules)
  pub written : json ≡ compact_text (placed_rules_data rules)

-- the bytes are the rules of a text in JSON, optimized
pub record AreOptimized (text json : List ℕ) : Type 0 where
  pub rules : List bare_rule.Rule
  pub read : reading.AreRules text rules
  pub answer : List OptimizedRule
  pub optimized : IsOptimized (rules_of rules) (optimized_rules_of answer)
  pub agrees : WrappersSuffice (optimized_rules_of answer) → AgreesLoosely (optimized_rules_of answer)
  pub written : json ≡ compact_text (optimized_rules_data answer)

-- the bytes are the optimized rules of a text in JSON, in binary form
pub record IsPrepared (text bytes : List ℕ) : Type 0 where
  pub rules : List OptimizedRule
  pub read : reading.AreOptimizedRules text rules
  pub written : bytes ≡ optimized_rules_bytes rules

-- the promises for the builtins and the optimized rules that a grammar's text is answered with
pub record ArePromised (text : List ℕ) (builtins : List (Bor (List ℕ))) (rules : List OptimizedRule)
    : Type 0 where
  pub answer : IsAnswer text builtins rules
  pub builtins_of : OfSpelled text (λ spelled. AreBuiltinsOf spelled builtins)
  pub sound : OfSpelled text IsWellFormedGrammar
  pub outcomes : OfSpelled text (λ spelled. HasOutcomesOf spelled (optimized_rules_of rules))
  pub ends : OfSpelled text (λ spelled. IsPlain spelled → EndsFromEverywhere spelled)
  pub answer_ends : OfSpelled text
      (λ spelled. IsPlain spelled → EndsFromEverywhere (optimized_rules_of rules))
  pub no_reports : OfRead text (λ read. AreReports read [])
  pub agrees : OfSpelled text
      (λ spelled. WrappersSuffice spelled → AgreesLoosely (optimized_rules_of rules))
  pub no_refusal : HasRefusal text → ⊥

-- the bytes are the whole answer for a grammar's text
pub record IsWhole (text json : List ℕ) : Type 0 where
  pub builtins : List (Bor (List ℕ))
  pub rules : List OptimizedRule
  pub promised : ArePromised text builtins rules
  pub written : json ≡ compact_text (answer_data builtins rules)

-- the bytes are the builtins that a grammar uses, the rules that it spells, and the answer for it
pub record IsGrammar (text bytes : List ℕ) : Type 0 where
  pub builtins : List (Bor (List ℕ))
  pub rules : List bare_rule.Rule
  pub optimized : List OptimizedRule
  pub spelled : SpellsGrammar text (rules_of rules)
  pub answer : IsAnswer text builtins optimized
  pub written : bytes ≡ (names_bytes builtins ++ rules_bytes rules) ++ optimized_rules_bytes optimized

-- the bytes are the versions
abbrev pub IsVersion : List ℕ → Type 0
IsVersion json = json ≡ compact_text version_data
