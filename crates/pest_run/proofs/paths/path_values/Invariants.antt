use Rattle.std.proofs.Common.{◌≡◌, map, take}
use Rattle.serde_json.specs.View.{view}
use Rattle.matcher_program.specs.ExpectedNames.{name_texts}
use Rattle.pest_run.specs.Paths.{path_data}
use Rattle.pest_run.proofs.paths.path_values.Given as goal

-- what is written are the paths so far
abbrev pub invariant-loop-path : goal.invariant-loop-path
invariant-loop-path l =
    map view l.values.items ≡ map (λ p. path_data (name_texts l.names) p.items) (take l.path-index l.paths)
