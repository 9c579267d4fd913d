use Rattle.std.proofs.Common.{◌≡◌, map, take}
use Rattle.front_spanned.specs.Nodes.{rule_views}
use Rattle.doc_pages.specs.Starts.{is_start}
use Rattle.doc_pages.proofs.starts.find_starts.Given as goal

abbrev pub invariant-loop-rule : goal.invariant-loop-rule
invariant-loop-rule l = l.starts.items ≡ map (is_start l.fn.text) (rule_views (take l.rule-index l.rules))
