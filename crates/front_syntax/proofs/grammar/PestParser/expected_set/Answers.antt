use Rattle.std.proofs.Common.{◌∙◌}
use Rattle.front_syntax.proofs.Parsing.{expected_if_ok, fails_at, no_failure, nothing_if_ok, spelled_nodes}
use Rattle.front_syntax.proofs.grammar.PestParser.expected_set.Goals as goal

pub returns-in-Some-clause-nothing : goal.returns-in-Some-clause-nothing
returns-in-Some-clause-nothing c = λ classes t us d. c.new.ensures.items

pub returns-in-Some-clause-expected : goal.returns-in-Some-clause-expected
returns-in-Some-clause-expected c =
    let x = spelled_nodes c.args.rule c.args.text.now _ _ c.in-Some.is c.in_ok-run.ensures in
    no_failure c.args.rule c.args.text.now x.trees _ x.spelled

pub returns-clause-nothing : goal.returns-clause-nothing
returns-clause-nothing c = nothing_if_ok c.args.rule c.args.text.now _ _ (fails_at c.args.rule c.args.text.now _ c.in-None.is c.in_ok-run.ensures)

pub returns-clause-expected : goal.returns-clause-expected
returns-clause-expected c =
    expected_if_ok c.args.rule c.args.text.now _ _ _ (fails_at c.args.rule c.args.text.now _ c.in-None.is c.in_ok-run.ensures) c.in_ok-failed-in-None.ensures
    (λ names e. c.rules_in_order.ensures names (c.deref.ensures.value ∙ e))
