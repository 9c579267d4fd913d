use Rattle.std.proofs.Common.{◌≡◌, List, length}
use Rattle.doc_pages.specs.Warnings.{AreWarnings}
use Rattle.front_spanned.specs.Spanned.{SpannedRule}
use Rattle.doc_pages.proofs.warnings.no_warnings.Given as goal

abbrev pub invariant-loop-rule : goal.invariant-loop-rule
invariant-loop-rule l = record {
  of_each_rule : length l.warnings.items ≡ l._rule;
  none : (rules : List SpannedRule) → AreWarnings rules l.warnings.items;
}
