use Rattle.std.proofs.Common.{ap, chars}
use Rattle.matcher_program.proofs.Compiling.{call_compiles}
use Rattle.base_ast.specs.Ast.{text_of}
use Rattle.base_ast.specs.Optimized.{optimized_rules_of}
use Rattle.matcher_program.proofs.Refusing.{name_refused}
use Rattle.matcher_program.proofs.compile.resolve_name.Goals as goal

pub returns-in-Some-clause-compiles : goal.returns-in-Some-clause-compiles
returns-in-Some-clause-compiles c = let h = rw c.as_str.ensures.value at c.in-Some.ensures in call_compiles _ _ _ _ h

pub returns-in_ok-clone-in-None-2-clause-refused : goal.returns-in_ok-clone-in-None-2-clause-refused
returns-in_ok-clone-in-None-2-clause-refused c =
    let none = rw c.as_str.ensures.value at c.in-None.ensures in
    let nothing = rw c.in-None-2.is at c.in_ok-form-in-None.ensures.none in
    name_refused c.args.properties.now (optimized_rules_of c.args.rules.now.rules.now) (text_of c.args.name.now) (text_of c.in_ok-clone-in-None-2.field-0) (ap chars c.in_ok-clone-in-None-2.ensures.cases) none nothing
