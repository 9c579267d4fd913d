use Rattle.std.proofs.Common.{List, ◌≡◌, ◌≢◌, [], inr, refl, rules, subst, sym, arith}
use Rattle.std.proofs.lemmas.Grind.{common_steps}
use Rattle.base_language.specs.declared.grammar.Rule.{Rule}
use Rattle.base_language.specs.declared.runtime.errors.Error.{Error}
use Rattle.front_nodes.specs.Forests.{forest_text}
use Rattle.front_spanned.specs.Erasure.{rules_without_spans}
use Rattle.front_spanned.specs.Spanned.{SpannedRule}
use Rattle.front_spanned.specs.Nodes.{rule_views}
use Rattle.front_validator.specs.Reported.{AreReported}
use Rattle.front_validator.specs.Placed.{AreIn}
use Rattle.front_validator.proofs.NothingElse.{none_endless}
use Rattle.pest_meta.specs.Findings.{AreErrorsOfFindings}
use Rattle.pest_meta.proofs.InText.{rules_in}
use Rattle.pest_meta.proofs.Spelled.{given}
use Rattle.pest_meta.proofs.parser.consume_valid_rules.Goals as goal

nothing_found : (rules : List SpannedRule) (errors : List (Error Rule)) → errors ≡ [] → AreErrorsOfFindings rules errors → AreReported rules [] []
nothing_found rules errors none told =
    let tell = subst (AreReported rules told.endless) none told.tell in
    subst (λ spans. AreReported rules spans []) (none_endless rules told.endless tell) tell

pub returns-then-not-is_empty-clause-refused : goal.returns-then-not-is_empty-clause-refused
returns-then-not-is_empty-clause-refused c =
    let read = c.in_ok-rules.ensures in
    let views = rule_views c.in_ok-rules.rules.items in
    let some : c.in_ok-errors.errors.items ≢ [] = first_of (search rules, grind (arith, common_steps)) in
    inr (record {
      rules = rules_without_spans views;
      give = given c.args.forest.now views (rules_without_spans views) read.flawless read.rules refl;
      some = some;
      tell = c.in_ok-errors.ensures.exact;
    })

pub returns-clause-read : goal.returns-clause-read
returns-clause-read c = rw c.into_inner.ensures c.in_ok-rules.ensures.rules

pub returns-clause-accepted : goal.returns-clause-accepted
returns-clause-accepted c =
    let read = c.in_ok-rules.ensures in
    let views = rule_views c.in_ok-rules.rules.items in
    let none : c.in_ok-errors.errors.items ≡ [] = first_of (search rules, grind (arith, common_steps)) in
    rw c.into_inner.ensures (record {
      give = given c.args.forest.now views (rules_without_spans views) read.flawless read.rules refl;
      no_reports = c.in_ok-errors.ensures.silent none;
      nothing_found = nothing_found views c.in_ok-errors.errors.items none c.in_ok-errors.ensures.exact;
      well_formed = c.in_ok-errors.ensures.accepted none;
    })

pub validate_ast_in-requires : goal.validate_ast_in-requires
validate_ast_in-requires c =
    let read = c.in_ok-rules.ensures in
    record {
      in_text = subst (λ z. AreIn z (rule_views c.in_ok-rules.rules.items)) (sym c.get_input-text.ensures)
          (rules_in (forest_text c.args.forest.now) {rules = rule_views c.in_ok-rules.rules.items} read.rules);
    }
