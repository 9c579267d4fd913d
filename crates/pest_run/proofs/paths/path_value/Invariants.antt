use Rattle.std.proofs.Common.{◌≡◌, map, take}
use Rattle.serde_json.specs.View.{view}
use Rattle.matcher_program.specs.ExpectedNames.{name_texts}
use Rattle.pest_run.specs.Paths.{call_data}
use Rattle.pest_run.proofs.paths.path_value.Given as goal

-- what is written are the calls so far
abbrev pub invariant-loop-call : goal.invariant-loop-call
invariant-loop-call l = map view l.values.items ≡ map (call_data (name_texts l.names)) (take l.call-index l.path)
