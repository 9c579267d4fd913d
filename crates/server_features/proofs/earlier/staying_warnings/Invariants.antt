use Rattle.std.proofs.Common.{All, string_bytes}
use Rattle.server_features.specs.Earlier.{StaysAmong}
use Rattle.server_features.proofs.earlier.staying_warnings.Given as goal

abbrev pub invariant-loop-diagnostic : goal.invariant-loop-diagnostic
invariant-loop-diagnostic l = All (StaysAmong (string_bytes l.earlier.text) l.fn.text l.earlier.diagnostics.items) l.found.items
