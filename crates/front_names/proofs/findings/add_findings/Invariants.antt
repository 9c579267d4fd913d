use Rattle.std.proofs.Common.{◌≡◌, ◌++◌, map, drop}
use Rattle.base_language.specs.Pieces.Saying.{piece_of}
use Rattle.front_names.specs.NameFindings.{told_by}
use Rattle.front_names.specs.Names.{complaints}
use Rattle.front_names.proofs.findings.add_findings.Given as goal

abbrev pub invariant-loop-place : goal.invariant-loop-place
invariant-loop-place l =
    told_by l.fn.found.items ++ complaints l.problem (map piece_of l.places)
    ≡ told_by l.found.items ++ complaints l.problem (map piece_of (drop l.place-index l.places))
