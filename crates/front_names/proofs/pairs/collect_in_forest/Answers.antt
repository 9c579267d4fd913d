use Rattle.std.proofs.Common.{◌∙◌, ap, subst, sym}
use Rattle.base_language.specs.Pieces.NamedTrees.{named}
use Rattle.front_nodes.specs.Forests.{forest_text, forest_trees}
use Rattle.front_names.specs.GrammarNames.{forest_complaints}
use Rattle.front_names.specs.NameFindings.{AreNameFindings}
use Rattle.front_names.specs.Names.{AreIn}
use Rattle.front_names.proofs.Told.{complaints_in_text, finding_places, places_told}
use Rattle.front_names.proofs.pairs.collect_in_forest.Goals as goal

pub name_errors-requires : goal.name_errors-requires
name_errors-requires c =
    let text = forest_text c.args.forest.now in
    let refused = subst (AreNameFindings (forest_complaints c.args.forest.now)) c.in-Err-Found.field-0-is c.in-Err-Found.ensures.refused in
    let all = complaints_in_text text (named (forest_trees c.args.forest.now)) in
    record {
      in_text = rw (c.get_input.ensures, c.deref.ensures.value)
          (subst (AreIn text) (ap places_told (sym refused.1) ∙ finding_places c.in-Err-Found.findings.items) all);
    }
