use Rattle.test_calling.proofs.facts.last_rule_is_meant.Goals as goal
use Rattle.test_calling.proofs.WhatTheyDo.{last_rule_is_meant}

pub returns : goal.returns
returns c = λ classes. last_rule_is_meant classes
