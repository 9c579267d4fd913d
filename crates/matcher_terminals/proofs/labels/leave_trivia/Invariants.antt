use Rattle.std.proofs.Common.{◌≡◌, ◌++◌, drop}
use Rattle.matcher_program.specs.ExpectedNames.{name_texts}
use Rattle.matcher_terminals.specs.Labels.{without_trivia}
use Rattle.matcher_terminals.proofs.labels.leave_trivia.Given as goal

abbrev pub invariant-loop-name : goal.invariant-loop-name
invariant-loop-name l =
    name_texts l.left.items ++ without_trivia (name_texts (drop l.name-index l.names)) ≡ without_trivia (name_texts l.names)
