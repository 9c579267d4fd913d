use Rattle.std.proofs.Common.{◌≡◌, map, take}
use Rattle.serde_json.specs.View.{view}
use Rattle.format_json.specs.Errors.{error_data}
use Rattle.format_json.proofs.errors.errors_value.Given as goal

-- what is written are the errors so far
abbrev pub invariant-loop-error : goal.invariant-loop-error
invariant-loop-error l = map view l.values.items ≡ map (error_data l.expected) (take l.error-index l.errors)
