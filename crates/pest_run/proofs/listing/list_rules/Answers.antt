use Rattle.std.proofs.Common.{arith, subst, sym}
use Rattle.base_ast.specs.Ast.{rules_of}
use Rattle.base_language.specs.Language.Expression.{Grammar}
use Rattle.pest_meta.proofs.Spelled.{spells_accepted}
use Rattle.pest_meta.specs.Written.{SpellsAccepted}
use Rattle.pest_run.proofs.Listed.{lists, only, silent}
use Rattle.pest_run.proofs.listing.list_rules.Goals as goal

pub returns-in-Ok-clause-listed : goal.returns-in-Ok-clause-listed
returns-in-Ok-clause-listed g c =
    let read = c.in-Ok.ensures.rules in
    let P : Grammar → Type 0 = λ h. SpellsAccepted c.args.grammar.now h in
    let spelled = subst P (sym read.same) (spells_accepted c.args.grammar.now read.builtins read.spelled read.spells) in
    let comes = rw c.deref.ensures.value at c.list_outcome.ensures in
    lists c.args.grammar.now (rules_of c.in-Ok.grammar.rules.value.items) c.print_outcome.result.write_result _ c.print_outcome.result.status _ _ _ _
    c.list_outcome.result spelled comes c.print_outcome.ensures.ends

pub returns-in-Ok-clause-silent : goal.returns-in-Ok-clause-silent
returns-in-Ok-clause-silent g c =
    let comes = rw c.deref.ensures.value at c.list_outcome.ensures in
    silent c.args.grammar.now (rules_of c.in-Ok.grammar.rules.value.items) c.print_outcome.result.write_result _ c.print_outcome.result.status _ _ _ _
    c.list_outcome.result comes c.print_outcome.ensures.ends

pub returns-in-Ok-clause-unstopped : goal.returns-in-Ok-clause-unstopped
returns-in-Ok-clause-unstopped g c =
    let comes = rw c.deref.ensures.value at c.list_outcome.ensures in
    λ five. only c.args.grammar.now (rules_of c.in-Ok.grammar.rules.value.items) c.print_outcome.result.write_result _ c.print_outcome.result.status _ _ _ _
    c.list_outcome.result 5 comes c.print_outcome.ensures.ends five (omega arith) (omega arith) (omega arith)

pub returns-in-Ok-clause-reason : goal.returns-in-Ok-clause-reason
returns-in-Ok-clause-reason g c =
    let comes = rw c.deref.ensures.value at c.list_outcome.ensures in
    λ one. absurd (only c.args.grammar.now (rules_of c.in-Ok.grammar.rules.value.items) c.print_outcome.result.write_result _ c.print_outcome.result.status _ _ _ _
    c.list_outcome.result 1 comes c.print_outcome.ensures.ends one (omega arith) (omega arith) (omega arith))
