use Rattle.base_language.specs.Pieces.NamedTrees.{named}
use Rattle.front_nodes.specs.Forests.{forest_text, forest_trees}
use Rattle.front_reader.proofs.ReadableCounts.{counts_readable}
use Rattle.pest_meta.proofs.parser.consume_forest.Goals as goal

pub returns-clause-rules : goal.returns-clause-rules
returns-clause-rules c = rw c.in_ok-erase_spans.ensures c.in_ok-rules.ensures.accepted

pub returns-clause-counts : goal.returns-clause-counts
returns-clause-counts c =
    let valid = c.in_ok-rules.ensures in
    rw c.in_ok-erase_spans.ensures (counts_readable (forest_text c.args.forest.now) {us = named (forest_trees c.args.forest.now)} valid.read valid.accepted.give.flawless)
