use Rattle.std.proofs.Common.{◌≡◌}
use Rattle.lint_output.specs.Locations.{IsIndexOf, location_at}
use Rattle.lint_output.proofs.lines.LineIndex.locate.Given as goal

abbrev pub invariant-loop-at : goal.invariant-loop-at
invariant-loop-at l = IsIndexOf l.bytes l.fn.self → l.location ≡ location_at l.bytes l.at
