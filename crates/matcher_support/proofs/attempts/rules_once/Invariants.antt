use Rattle.std.proofs.Common.{◌≡◌, [], drop}
use Rattle.matcher_code.specs.Steps.{insert_rules}
use Rattle.matcher_support.proofs.attempts.rules_once.Given as goal

abbrev pub invariant-loop-rule : goal.invariant-loop-rule
invariant-loop-rule l = insert_rules l.once.items (drop l.rule-index l.rules) ≡ insert_rules [] l.rules
