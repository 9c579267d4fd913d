use Rattle.std.proofs.Common.{map, subst, sym}
use Rattle.base_ast.specs.Optimized.{optimized_rules_of}
use Rattle.std.proofs.lemmas.Result.{IfOk-weaker}
use Rattle.front_restorer.specs.Bodies.{said_by, grammar_with, SameBodies}
use Rattle.front_restorer.specs.Summaries.{AreSummariesOf}
use Rattle.front_restorer.specs.KnownChanges.{KnowsChanges}
use Rattle.front_restorer.proofs.Holding.{of_rules, tells_moved}
use Rattle.front_restorer.proofs.restorer.changes_in_rules.Goals as goal

pub returns-clause-tells : goal.returns-clause-tells
returns-clause-tells c =
    let bs = map said_by c.in_ok-bodies.bodies.items in
    let rs = c.args.rules.now in
    let same = subst (λ ds. SameBodies (grammar_with ds) (optimized_rules_of rs)) (sym c.in_ok-bodies.ensures) (of_rules rs) in
    IfOk-weaker c.changes_of.result _ _
    (λ changes t. tells_moved changes bs (optimized_rules_of rs) same (subst (λ ds. KnowsChanges changes (grammar_with (map said_by ds))) c.deref.ensures.value t)) c.changes_of.ensures.tells

pub returns-clause-noted : goal.returns-clause-noted
returns-clause-noted c =
    IfOk-weaker c.changes_of.result _ _
    (λ changes t. subst (λ ds. AreSummariesOf changes.names ds changes.noted) c.in_ok-bodies.ensures (subst (λ ds. AreSummariesOf changes.names (map said_by ds) changes.noted) c.deref.ensures.value t)) c.changes_of.ensures.noted
