use Rattle.std.proofs.Common.{IfSome, List, subst, sym}
use Rattle.front_spanned.specs.declared.node.ParserRule.{ParserRule}
use Rattle.front_analysis.specs.Facts.{AreFacts, AreNullable}
use Rattle.front_analysis.specs.declared.facts.Facts.{Facts}
use Rattle.front_analysis.proofs.Roots.{nullable_nodes}
use Rattle.front_stack_loops.proofs.Work.{where_ok}
use Rattle.front_stack_loops.proofs.repetitions.nullable_flags.Goals as goal

right_flags : (rules : List ParserRule) (facts : Facts) → AreFacts rules facts → AreNullable rules facts.nullable.items
right_flags rules facts h = nullable_nodes rules facts.table facts.nullable.items h.tabled h.nullable

pub returns-in-Some : goal.returns-in-Some
returns-in-Some c =
    let rs = c.args.grammar.now.rules.now in
    let facts = c.in-Some.facts.now in
    let h : AreFacts rs facts = subst (λ o. IfSome o (λ f. AreFacts rs f.now)) c.in-Some.is c.requires.facts in
    where_ok c.copy_nullable.result (λ flags e. subst (AreNullable rs) (sym e) (right_flags rs facts h)) c.copy_nullable.ensures

pub returns-in_ok-nullable-in-None : goal.returns-in_ok-nullable-in-None
returns-in_ok-nullable-in-None c = right_flags c.args.grammar.now.rules.now _ c.in_ok-nullable-in-None.ensures
