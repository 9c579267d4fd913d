use Rattle.std.proofs.Common.{◌≡◌, [], drop}
use Rattle.matcher_program.specs.ExpectedNames.{name_texts}
use Rattle.matcher_terminals.specs.Labels.{with_labels}
use Rattle.matcher_terminals.proofs.labels.collect_labels.Given as goal

abbrev pub invariant-loop-name : goal.invariant-loop-name
invariant-loop-name l = with_labels (name_texts l.labels.items) (name_texts (drop l.name-index l.names)) ≡ with_labels [] (name_texts l.names)
