use Rattle.std.proofs.Common.{◌≡◌, ◌++◌, map, take}
use Rattle.pest_meta_c.specs.PathCalls.{with_path}
use Rattle.pest_meta_c.proofs.paths.push_path.Given as goal

abbrev pub invariant-loop-call : goal.invariant-loop-call
invariant-loop-call l = l.list.items ≡ l.fn.list.items ++ map (with_path l.path) (take l.call-index l.calls)
