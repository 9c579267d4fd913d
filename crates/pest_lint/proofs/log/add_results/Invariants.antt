use Rattle.std.proofs.Common.{◌≡◌, ◌++◌, map, take}
use Rattle.serde_json.specs.View.{view}
use Rattle.lint_output.specs.Sarif.{result_data}
use Rattle.pest_lint.proofs.log.add_results.Given as goal

-- what is added are the diagnostics so far
abbrev pub invariant-loop-diagnostic : goal.invariant-loop-diagnostic
invariant-loop-diagnostic l = map view l.results.items
    ≡ map view l.fn.results.items
    ++ map (result_data l.fn.name l.fn.text) (take l.diagnostic-index l.diagnostics)
