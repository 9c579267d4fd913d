-- Facts of rules.
use Rattle.std.proofs.Common.{◌≡◌, ◌∙◌, ℕ, List, IsUtf8, Option, Some, None, Vec, arith, chars, false, get_or, inl, option_and_then, refl, slice_get, subst, sym}
use Rattle.std.proofs.lemmas.Option.{slice_get-get_or, slice_get_within, unwrap_or-slice_get}
use Rattle.std.specs.Bool.{Decides}
use Rattle.std.specs.HashMap.{get_by_text}
use Rattle.front_analysis.proofs.Resolved.{Named, absent, named, resolved}
use Rattle.front_analysis.proofs.Roots.{nullable_nodes}
use Rattle.front_analysis.specs.Names.{grammar_of}
use Rattle.front_analysis.specs.declared.analysis.Analysis.{Analysis}
use Rattle.base_language.specs.Language.Expression.{rule_of}
use Rattle.base_language.specs.Language.WellFormed.{IsNullable}
use Rattle.base_language.specs.Pieces.NamedTrees.{named as named_trees}
use Rattle.base_language.specs.declared.grammar.Rule.TheVariants as rule_is
use Rattle.base_language.specs.declared.runtime.faults.Fault as code
use Rattle.base_language.specs.declared.runtime.faults.Fault.TheVariants as fault_is
use Rattle.front_nodes.specs.Forests.{forest_text, forest_trees}
use Rattle.front_nodes.specs.declared.forest.Forest.{Forest}
use Rattle.front_reader.specs.Refusals.{IsReadAs, IsReadRefusal, first_flaw_in}
use Rattle.front_spanned.specs.Erasure.{without_spans}
use Rattle.front_spanned.specs.Nodes.{rule_views, view}
use Rattle.front_spanned.specs.declared.node.ParserRule.{ParserRule}
use Rattle.front_syntax.specs.Parses.{IsOfAGrammar, ParseRefuses}
use Rattle.pest_meta.proofs.Spelled.{fails_so, flawed, flawed_give_none, trees_once}
use Rattle.pest_meta.specs.Spelling.{AreFlawed, HasTrees, SpellsGrammar}
use Rattle.front_analysis.specs.Analysis.{IsAnalysis}
use Rattle.server_features.specs.Facts.{AreFacts, AreFactsBy, AreFactsIn, IsStated, IsTableOf, SpellsNoneUnlessMemory}
use Rattle.server_features.specs.declared.facts.RuleFacts.{RuleFacts}
use Rattle.server_features.specs.declared.facts.RuleTable.{RuleTable}
use Rattle.server_features.specs.declared.facts.Start.{Start}
use Rattle.std.specs.declared.alloc.Global.{Global}

-- the number of the body of the rule that a name means, by an analysis
abbrev root_in : Analysis → List ℕ → Option ℕ
root_in analysis name = option_and_then (λ rule. slice_get analysis.grammar.table.roots.items rule)
    (get_by_text analysis.grammar.names.places name)

-- a name without a root means no rule
no_root : (analysis : Analysis) (name : List ℕ) → IsAnalysis analysis → IsUtf8 name → root_in analysis name ≡ None → AreFactsIn (grammar_of analysis.grammar.rules.now) name None
no_root analysis name h utf8 none = go _ (h.resolved.known name utf8) (resolved analysis.grammar.rules.now (chars name))
  where
    go : (o : Option ℕ) → get_by_text analysis.grammar.names.places name ≡ o → Named analysis.grammar.rules.now (chars name) o → rule_of (grammar_of analysis.grammar.rules.now) (chars name) ≡ None
    go None e (absent f) = f
    go (Some r) e (named rule at f) =
        let within = slice_get_within analysis.grammar.rules.now r rule at in
        let some = slice_get-get_or analysis.grammar.table.roots.items r 0 (omega (arith, within, h.resolved.tabled.roots.alike)) in
        absurd (let e2 : root_in analysis name ≡ slice_get analysis.grammar.table.roots.items r = rw e refl in cc)

-- the flag of a root tells whether the rule is nullable
root_known : (analysis : Analysis) (name : List ℕ) (root : ℕ) (facts : RuleFacts) → IsAnalysis analysis → IsUtf8 name → root_in analysis name ≡ Some root
    → facts.is_nullable ≡ get_or analysis.facts.nullable.items root false → AreFactsIn (grammar_of analysis.grammar.rules.now) name (Some facts)
root_known analysis name root facts h utf8 some flag = go _ (h.resolved.known name utf8) (resolved analysis.grammar.rules.now (chars name))
  where
    go : (o : Option ℕ) → get_by_text analysis.grammar.names.places name ≡ o → Named analysis.grammar.rules.now (chars name) o → AreFactsIn (grammar_of analysis.grammar.rules.now) name (Some facts)
    go None e (absent f) = absurd (let e2 : root_in analysis name ≡ None = rw e refl in cc)
    go (Some r) e (named rule at f) =
        let here : slice_get analysis.grammar.table.roots.items r ≡ Some root = (let e2 : root_in analysis name ≡ slice_get analysis.grammar.table.roots.items r = rw e refl in sym e2 ∙ some) in
        let node = h.resolved.tabled.roots.lie r root rule at here in
        let flags = analysis.facts.nullable.items in (
          _,
          f,
          subst (λ b. Decides b (IsNullable (grammar_of analysis.grammar.rules.now) (without_spans (view rule.node))))
              (unwrap_or-slice_get flags root false ∙ sym flag)
              (nullable_nodes analysis.grammar.rules.now analysis.facts.table flags h.facts.tabled h.facts.nullable root (view rule.node) node),
        )

-- the table of an analysis of rules
pub tabled : (analysis : Analysis) (rules : List ParserRule) (starts : Vec Start Global) → IsAnalysis analysis → analysis.grammar.rules.now ≡ rules
    → IsTableOf (grammar_of rules) (record { names = analysis.grammar.names; roots = analysis.grammar.table.roots; nullable = analysis.facts.nullable; starts = starts })
tabled analysis rules starts h e name utf8 None none = subst (λ rs. AreFactsIn (grammar_of rs) name None) e (no_root analysis name h utf8 none)
tabled analysis rules starts h e name utf8 (Some facts) (root, some, flag) = subst (λ rs. AreFactsIn (grammar_of rs) name (Some facts)) e (root_known analysis name root facts h utf8 some flag)

-- the facts that the table of a text has
pub stated_facts : (text name : List ℕ) (table : RuleTable) (facts : Option RuleFacts) → IsUtf8 name → IsStated text (Some table) → AreFactsBy table name facts → AreFacts text name facts
stated_facts text name table facts utf8 (rules, spells, h) by = inl (rules, spells, h name utf8 facts by)

-- the rules that are read
pub rules_read : (text : List ℕ) (forest : Forest) (rules : List ParserRule) → forest_text forest ≡ text → IsOfAGrammar forest
    → first_flaw_in forest ≡ None → IsReadAs forest (rule_views rules) → SpellsGrammar text (grammar_of rules)
rules_read text forest rules t of_grammar flawless reads =
    let spells : SpellsGrammar (forest_text forest) (grammar_of rules) = record {
      trees = named_trees (forest_trees forest);
      of_text = of_grammar;
      give = record { flawless = flawless; read = rule_views rules; reads = reads; same = refl };
    } in
    subst (λ v. SpellsGrammar v (grammar_of rules)) t spells

-- what is refused before anything is read spells no rules
pub parse_refused : (text : List ℕ) (fault : code.Fault) → ParseRefuses rule_is.grammar_rules text fault → SpellsNoneUnlessMemory text fault
parse_refused text (fault_is.Memory e) h = tt
parse_refused text (fault_is.Grammar errors) h = λ rules s. fails_so text h.place s.trees h.fails s.of_text

-- nor what has a flaw
pub read_refused : (text : List ℕ) (forest : Forest) (fault : code.Fault) → forest_text forest ≡ text → IsOfAGrammar forest
    → IsReadRefusal (first_flaw_in forest) fault → SpellsNoneUnlessMemory text fault
read_refused text forest (fault_is.Memory e) t h k = tt
read_refused text forest (fault_is.Grammar errors) t h k = λ rules s.
    let trees = named_trees (forest_trees forest) in
    let flaw : AreFlawed (forest_text forest) trees errors.items = flawed (forest_text forest) trees errors.items (first_flaw_in forest) refl k in
    let there = subst (λ v. AreFlawed v trees errors.items) t flaw in
    let same = trees_once text trees s.trees (subst (λ v. HasTrees v trees) t h) s.of_text in
    flawed_give_none text s.trees errors.items rules (subst (λ us. AreFlawed text us errors.items) same there) s.give
