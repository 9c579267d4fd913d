use Rattle.std.proofs.Common.{◌≡◌, take, map}
use Rattle.front_spanned.specs.Nodes.{piece_of}
use Rattle.front_validator.specs.Findings.{endless_at}
use Rattle.front_validator.specs.Reporting.{findings_of}
use Rattle.front_validator.proofs.reported.endless_findings.Given as goal

abbrev pub invariant-loop-span : goal.invariant-loop-span
invariant-loop-span l = findings_of l.found.items ≡ map endless_at (map piece_of (take l.span-index l.endless))
