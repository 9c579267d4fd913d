use Rattle.std.proofs.Common.{◌≡◌}
use Rattle.front_nodes.specs.Nodes.{named_trees_of}
use Rattle.front_reader.specs.Flaws.{first_flaw}
use Rattle.front_reader.specs.Reading.{Postfixed}
use Rattle.front_grammar.specs.Shape.{ArePostfixes}
use Rattle.front_spanned.specs.Spanned.{Spanned}
use Rattle.front_reader.specs.Views.{IsNodeBefore, count_of}
use Rattle.front_spanned.specs.Nodes.{view}
use Rattle.front_reader.proofs.rules.operators.apply_postfixes.Given as goal

abbrev pub invariant-loop-operator : goal.invariant-loop-operator
invariant-loop-operator l = record {
  shape : ArePostfixes l.text (named_trees_of l.rest);
  place : IsNodeBefore l.text l.node (named_trees_of l.rest);
  flaws : first_flaw l.text (named_trees_of l.operators) ≡ first_flaw l.text (named_trees_of l.rest);
  reads : (y : Spanned) → Postfixed l.text (view l.node) (named_trees_of l.rest) y
      → Postfixed l.text (view l.fn.operand) (named_trees_of l.operators) y;
}

abbrev pub decreases-loop-operator : goal.decreases-loop-operator
decreases-loop-operator l = count_of (named_trees_of l.rest)
