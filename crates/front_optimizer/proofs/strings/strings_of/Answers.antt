use Rattle.base_ast.specs.Ast.{expression_of}
use Rattle.front_optimizer.specs.Bodies.{Serve}
use Rattle.front_optimizer.proofs.NamesKnown.{none_found}
use Rattle.front_optimizer.proofs.Telling.{told}
use Rattle.front_optimizer.proofs.strings.strings_of.Goals as goal

pub returns-in-Strings : goal.returns-in-Strings
returns-in-Strings c =
    told c.args.bodies.now (Serve c.args.bodies.now c.args.names.now) (expression_of c.args.expr.now) c.len.result c.texts_within.result
    (λ g t. (t.0, c.in-Strings.ensures g c.len.result (rw c.len.ensures t.1.right.have))) c.texts_within.ensures

pub returns-in_default : goal.returns-in_default
returns-in_default c = λ g t. none_found c.args.names.now (expression_of c.args.expr.now) c.next_name.result c.next_name.ensures c.in_default.not-Strings g t.1
