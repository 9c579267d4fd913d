use Rattle.std.proofs.Common.{◌≡◌, ◌++◌, [], List}
use Rattle.front_nodes.specs.Nodes.{named_trees_of}
use Rattle.front_reader.specs.Flaws.{first_flaw}
use Rattle.front_reader.specs.Pieces.{AreInText}
use Rattle.front_reader.specs.Reading.{ReadsRules}
use Rattle.front_spanned.specs.Spanned.{SpannedRule}
use Rattle.front_reader.specs.Views.{count_of}
use Rattle.front_spanned.specs.Nodes.{rule_views}
use Rattle.front_reader.proofs.ReadRules.{IsLeft, ReadsLeft}
use Rattle.front_reader.proofs.rules.rules.Given as goal

abbrev pub invariant-loop-tree : goal.invariant-loop-tree
invariant-loop-tree l = record {
  shape : IsLeft l.text (named_trees_of l.rest);
  nested : AreInText l.text (named_trees_of l.rest);
  empty : l.levels.items ≡ [];
  flaws : first_flaw l.text (named_trees_of l.trees) ≡ first_flaw l.text (named_trees_of l.rest);
  reads : (rs : List SpannedRule) → ReadsLeft l.text (named_trees_of l.rest) rs
      → ReadsRules l.text (named_trees_of l.trees) (rule_views l.read.value.items ++ rs);
}

abbrev pub decreases-loop-tree : goal.decreases-loop-tree
decreases-loop-tree l = count_of (named_trees_of l.rest)
