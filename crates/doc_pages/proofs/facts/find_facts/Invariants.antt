use Rattle.std.proofs.Common.{◌≡◌, ◌+◌, length}
use Rattle.doc_pages.specs.Links.{AreCallersBelow, AreFactsBelow}
use Rattle.doc_pages.proofs.facts.find_facts.Given as goal

abbrev pub invariant-loop-number : goal.invariant-loop-number
invariant-loop-number l = record {
  each : length l.facts.items + l.number ≡ length l.rules;
  callers : AreCallersBelow (length l.rules) l.callers.items;
  facts : AreFactsBelow (length l.rules) l.facts.items;
}
