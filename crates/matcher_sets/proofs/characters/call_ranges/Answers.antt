use Rattle.std.proofs.Common.{ap}
use Rattle.base_ast.specs.Ast.{rule_type_of}
use Rattle.matcher_sets.proofs.characters.call_ranges.Goals as goal

pub silent_ranges-requires-clause-kind : goal.silent_ranges-requires-clause-kind
silent_ranges-requires-clause-kind c = ap rule_type_of c.in-Silent.is
