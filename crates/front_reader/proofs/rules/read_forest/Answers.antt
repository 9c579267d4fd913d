use Rattle.std.proofs.Common.{◌≡◌, Err, Global, None, Ok, Option, Result, Vec, length}
use Rattle.std.specs.Prelude.{IfErr, IfOk, OnOk}
use Rattle.base_language.specs.Pieces.NamedTrees.{named}
use Rattle.front_nodes.specs.Forests.{forest_text, forest_trees}
use Rattle.front_spanned.specs.Nodes.{rule_views}
use Rattle.front_spanned.specs.declared.node.ParserRule.{ParserRule}
use Rattle.front_reader.specs.Flaws.{Flaw}
use Rattle.front_reader.specs.Refusals.{IsReadAs, first_flaw_in}
use Rattle.front_reader.specs.Views.{Answers, AnswersRules, IsFirst}
use Rattle.front_reader.specs.declared.rules.flaws.ReadError.{ReadError}
use Rattle.front_reader.proofs.TreesStandInText.{nested_named}
use Rattle.front_reader.proofs.rules.read_forest.Goals as goal

-- what an answer says, part by part
rules_so : {X : Type 0} (flaw : Option Flaw) (result : Result X ReadError) (P : X → Type 0) → Answers flaw result P → IfOk result P
rules_so flaw (Ok x) P h = h.1
rules_so flaw (Err e) P h = tt

flawless_so : {X : Type 0} (flaw : Option Flaw) (result : Result X ReadError) (P : X → Type 0) → Answers flaw result P → OnOk result (flaw ≡ None)
flawless_so flaw (Ok x) P h = h.0
flawless_so flaw (Err e) P h = tt

refused_so : {X : Type 0} (flaw : Option Flaw) (result : Result X ReadError) (P : X → Type 0) → Answers flaw result P → IfErr result (IsFirst flaw)
refused_so flaw (Ok x) P h = tt
refused_so flaw (Err e) P h = h

pub rules-requires-clause-nested : goal.rules-requires-clause-nested
rules-requires-clause-nested c =
    let text = forest_text c.args.forest.now in
    rw (c.get_input.ensures, c.nodes.ensures) record { from = 0; to = length text; nested = nested_named text (forest_trees c.args.forest.now) 0 (length text) c.args.forest.now.nested }

pub rules-requires-clause-shape : goal.rules-requires-clause-shape
rules-requires-clause-shape c =
    let utf8 = rw c.get_input.ensures at c.get_input.utf8 in
    rw (c.get_input.ensures, c.nodes.ensures) (c.trees_of_a_grammar_have_their_shape.ensures (forest_text c.args.forest.now) (named (forest_trees c.args.forest.now)) utf8 c.requires)

pub returns-clause-rules : goal.returns-clause-rules
returns-clause-rules c =
    let forest = c.args.forest.now in
    let told : AnswersRules (forest_text forest) (named (forest_trees forest)) c.rules.result = rw (c.get_input.ensures, c.nodes.ensures) at c.rules.ensures in
    rules_so (first_flaw_in forest) c.rules.result (λ (rules : Vec ParserRule Global). IsReadAs forest (rule_views rules.items)) told

pub returns-clause-flawless : goal.returns-clause-flawless
returns-clause-flawless c =
    let forest = c.args.forest.now in
    let told : AnswersRules (forest_text forest) (named (forest_trees forest)) c.rules.result = rw (c.get_input.ensures, c.nodes.ensures) at c.rules.ensures in
    flawless_so (first_flaw_in forest) c.rules.result (λ (rules : Vec ParserRule Global). IsReadAs forest (rule_views rules.items)) told

pub returns-clause-refused : goal.returns-clause-refused
returns-clause-refused c =
    let forest = c.args.forest.now in
    let told : AnswersRules (forest_text forest) (named (forest_trees forest)) c.rules.result = rw (c.get_input.ensures, c.nodes.ensures) at c.rules.ensures in
    refused_so (first_flaw_in forest) c.rules.result (λ (rules : Vec ParserRule Global). IsReadAs forest (rule_views rules.items)) told
