use Rattle.std.proofs.Common.{◌≡◌, false, take}
use Rattle.matcher_code.specs.Steps.{has_path}
use Rattle.matcher_engine.specs.Traces.{paths_in}
use Rattle.matcher_engine.proofs.tracer.Tracer.has_path.Given as goal

abbrev pub invariant-loop-path : goal.invariant-loop-path
invariant-loop-path l = has_path (paths_in (take l.path-index l.self.paths.items)) l.calls ≡ false
