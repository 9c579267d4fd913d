use Rattle.std.proofs.Common.{List, ◌++◌, map, drop}
use Rattle.base_language.specs.Pieces.Saying.{AreErrorsFor, piece_of}
use Rattle.base_language.specs.declared.grammar.Rule.{Rule}
use Rattle.base_language.specs.declared.runtime.errors.Error.{Error}
use Rattle.front_names.specs.Names.{complaints}
use Rattle.front_names.proofs.said.errors.Given as goal

abbrev pub invariant-loop-place : goal.invariant-loop-place
invariant-loop-place l = (more : List (Error Rule)) → AreErrorsFor (complaints l.problem (map piece_of (drop l.place-index l.places))) more
    → AreErrorsFor (complaints l.problem (map piece_of l.places)) (l.errors.items ++ more)
