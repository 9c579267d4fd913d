use Rattle.std.proofs.Common.{rules, sym, tests, ◌∙◌}
use Rattle.std.proofs.lemmas.Iterator.{YieldsList-from_slice}
use Rattle.std.proofs.lemmas.Iterator.Consumers.{YieldsList-from_copied}
use Rattle.std.proofs.lemmas.Iterator.Search.{find_from_yields_List}
use Rattle.base_language.specs.Pieces.MetaRules.{meta_rules}
use Rattle.format_json.proofs.RuleNames.{has_name, none_is_of_no_rule}
use Rattle.format_json.proofs.rule_names.rule_named.Goals as goal

pub returns-clause-none : goal.returns-clause-none
returns-clause-none c =
    let name = c.args.name.now in
    let by = find_from_yields_List {all = meta_rules} (has_name name) _ _ c.find.result c.find.ensures.ran (YieldsList-from_copied (YieldsList-from_slice meta_rules cc)) (λ x b q k. search (rules, tests)) in
    none_is_of_no_rule name c.find.result (sym c.eq.ensures ∙ c.if-eq.false) by
