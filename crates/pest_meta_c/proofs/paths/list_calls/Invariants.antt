use Rattle.std.proofs.Common.{◌≡◌, take}
use Rattle.matcher_engine.specs.Traces.{paths_in}
use Rattle.pest_meta_c.specs.PathCalls.{calls_in}
use Rattle.pest_meta_c.proofs.paths.list_calls.Given as goal

abbrev pub invariant-loop-path : goal.invariant-loop-path
invariant-loop-path l = l.list.items ≡ calls_in 0 (paths_in (take l.path l.paths))
