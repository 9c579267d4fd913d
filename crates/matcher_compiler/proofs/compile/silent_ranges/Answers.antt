use Rattle.std.proofs.Common.{ap}
use Rattle.base_ast.specs.Ast.{rule_type_of}
use Rattle.matcher_compiler.proofs.compile.silent_ranges.Goals as goal

pub body_ranges-requires-clause-kind : goal.body_ranges-requires-clause-kind
body_ranges-requires-clause-kind c = ap rule_type_of c.in-Silent.is
