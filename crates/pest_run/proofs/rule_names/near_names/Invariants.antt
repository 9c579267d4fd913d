use Rattle.std.proofs.Common.{◌≡◌, take}
use Rattle.matcher_program.specs.ExpectedNames.{name_texts}
use Rattle.pest_run.specs.RuleNames.{near_among}
use Rattle.pest_run.proofs.rule_names.near_names.Given as goal

abbrev pub invariant-loop-other : goal.invariant-loop-other
invariant-loop-other l = name_texts l.near.items ≡ near_among (name_texts (take l.other-index l.names)) l.name
