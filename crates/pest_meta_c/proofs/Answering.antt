-- What is read from the trees of a text is answered for the text.
use Rattle.std.proofs.Common.{◌≡◌, ◌++◌, ◌∙◌, ap, ℕ, List, [], None, Result, Ok, Err, IfOk, Bor, String, Global, string_bytes, subst}
use Rattle.std.specs.declared.alloc.AllocError.{AllocError}
use Rattle.serde_json.specs.Data.{Data}
use Rattle.serde_json.specs.Written.{compact_text}
use Rattle.base_ast.specs.Ast.{rules_of}
use Rattle.base_ast.specs.declared.ast.Rule as bare_rule
use Rattle.base_ast.specs.declared.optimized.OptimizedRule.{OptimizedRule}
use Rattle.base_language.specs.Language.WellFormed.{HasReadableCounts}
use Rattle.base_language.specs.Pieces.NamedTrees.{named}
use Rattle.format_binary.specs.Format.{names_bytes, optimized_rules_bytes, rules_bytes}
use Rattle.format_json.specs.Errors.{names_data}
use Rattle.format_json.specs.Format.{rules_data}
use Rattle.format_json.specs.Placed.{placed_rules_data}
use Rattle.front_names.specs.GrammarNames.{AreWrittenAt, forest_complaints, forest_first_calls}
use Rattle.front_nodes.specs.Forests.{forest_text, forest_trees}
use Rattle.front_nodes.specs.declared.forest.Forest.{Forest}
use Rattle.front_spanned.specs.Nodes.{rule_views}
use Rattle.front_spanned.specs.declared.node.ParserRule.{ParserRule}
use Rattle.front_reader.specs.Refusals.{IsReadAs, first_flaw_in}
use Rattle.front_syntax.specs.Parses.{IsOfAGrammar}
use Rattle.pest_meta.specs.Spelling.{AreAccepted, IsAnswer, SpellsGrammar}
use Rattle.pest_meta_c.specs.declared.outcome.CallError as why
use Rattle.pest_meta_c.specs.Answers.{AreNames, AreNodes, AreRules, IsGrammar}

pub names_answered : (text json : List ℕ) (forest : Forest) (names : List (Bor (List ℕ))) → forest_text forest ≡ text → IsOfAGrammar forest → forest_complaints forest ≡ [] → AreWrittenAt (forest_first_calls forest) names
    → json ≡ compact_text (names_data names) → AreNames text json
names_answered text json forest names same h none uses written = subst (λ v. AreNames v json) same (record {
  trees = named (forest_trees forest);
  of_text = h;
  well_named = none;
  names = names;
  uses = uses;
  written = written;
})

pub rules_answered : (text json : List ℕ) (forest : Forest) (rules : List bare_rule.Rule) → forest_text forest ≡ text → IsOfAGrammar forest → AreAccepted (forest_text forest) (named (forest_trees forest)) (rules_of rules) → HasReadableCounts (rules_of rules)
    → json ≡ compact_text (rules_data rules) → AreRules text json
rules_answered text json forest rules same h accepted counts written = subst (λ v. AreRules v json) same (record {
  trees = named (forest_trees forest);
  of_text = h;
  rules = rules;
  accepted = accepted;
  counts = counts;
  written = written;
})

pub nodes_answered : (text json : List ℕ) (forest : Forest) (rules : List ParserRule) → forest_text forest ≡ text → IsOfAGrammar forest → first_flaw_in forest ≡ None → IsReadAs forest (rule_views rules)
    → json ≡ compact_text (placed_rules_data rules) → AreNodes text json
nodes_answered text json forest rules same h flawless read written = subst (λ v. AreNodes v json) same (record {
  trees = named (forest_trees forest);
  of_text = h;
  flawless = flawless;
  rules = rules;
  read = read;
  written = written;
})

-- what holds of a text holds of it as an answer, unless memory is wanting
pub answered_so : (P : List ℕ → Type 0) (text : Result (String Global) AllocError) (outcome : Result (String Global) why.CallError) → IfOk text (λ t. P (string_bytes t)) → IfOk outcome (λ t. text ≡ Ok t) → IfOk outcome (λ t. P (string_bytes t))
answered_so P text (Ok t) h same = subst (λ r. IfOk r (λ u. P (string_bytes u))) same h
answered_so P text (Err reason) h same = tt

-- JSON of which this holds is answered, unless memory is wanting
pub answered_from : (P : List ℕ → Type 0) (d : Data) (json : Result (String Global) AllocError) (outcome : Result (String Global) why.CallError) → IfOk json (λ text. string_bytes text ≡ compact_text d) → ((bytes : List ℕ) → bytes ≡ compact_text d → P bytes)
    → IfOk outcome (λ text. json ≡ Ok text) → IfOk outcome (λ text. P (string_bytes text))
answered_from P d json (Ok text) h f same = f (string_bytes text) (subst (λ r. IfOk r (λ t. string_bytes t ≡ compact_text d)) same h)
answered_from P d json (Err reason) h f same = tt

-- what is read and optimized is answered in binary form: the builtins, the rules and the optimized rules, one behind the other
pub grammar_answered : (text bytes first second : List ℕ) (forest : Forest) (builtins : List (Bor (List ℕ))) (rules : List bare_rule.Rule) (optimized : List OptimizedRule)
    → forest_text forest ≡ text → IsOfAGrammar forest → AreAccepted (forest_text forest) (named (forest_trees forest)) (rules_of rules) → IsAnswer text builtins optimized
    → first ≡ names_bytes builtins → second ≡ first ++ rules_bytes rules → bytes ≡ second ++ optimized_rules_bytes optimized → IsGrammar text bytes
grammar_answered text bytes first second forest builtins rules optimized same h accepted answer n r o = record {
  builtins = builtins;
  rules = rules;
  optimized = optimized;
  spelled = subst (λ v. SpellsGrammar v (rules_of rules)) same (record { trees = named (forest_trees forest); of_text = h; give = accepted.give });
  answer = answer;
  written = o ∙ ap (λ t. t ++ optimized_rules_bytes optimized) (r ∙ ap (λ t. t ++ rules_bytes rules) n);
}
