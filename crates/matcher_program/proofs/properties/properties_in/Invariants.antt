use Rattle.std.proofs.Common.{◌≡◌, true, take}
use Rattle.std.specs.List.{All}
use Rattle.std.specs.Prelude.{flat_map}
use Rattle.matcher_program.proofs.Gathering.{calls_in, texts}
use Rattle.matcher_program.specs.Programs.{Fits}
use Rattle.matcher_program.specs.Refusals.{has_property}
use Rattle.matcher_program.proofs.properties.properties_in.Given as goal

abbrev pub invariant-loop-rule : goal.invariant-loop-rule
invariant-loop-rule g l =
    texts l.names.items ≡ flat_map calls_in (take l.rule-index l.rules)

abbrev pub invariant-loop-name : goal.invariant-loop-name
invariant-loop-name g l =
    Fits l.found.items g.P.Properties.classes
    × All (λ t. g.P.Properties.knows t ≡ true → has_property l.found.items t ≡ true) (texts (take l.name-index l.name-items))
