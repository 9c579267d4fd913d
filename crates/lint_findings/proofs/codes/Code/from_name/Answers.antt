use Rattle.std.proofs.Common.{◌∙◌, sym}
use Rattle.lint_findings.specs.Codes.{has_name}
use Rattle.lint_findings.proofs.Named.{next_fails, none_left, unknown}
use Rattle.lint_findings.proofs.codes.Code.from_name.Goals as goal

pub returns-then-has_name-clause-named : goal.returns-then-has_name-clause-named
returns-then-has_name-clause-named c = sym c.has_name.ensures ∙ c.if-has_name.true

pub loop-facts-preserved : goal.loop-facts-preserved
loop-facts-preserved c =
    c.loop-facts.invariant
    ∙ next_fails (λ facts. has_name facts.code c.args.name.now) c.all_facts-facts-items.result.now c.loop-facts.facts-index _ c.loop-facts-test.true (sym c.has_name.ensures ∙ c.if-has_name.false)

pub returns : goal.returns
returns c =
    let items = c.all_facts-facts-items.result.now in
    let none = c.loop-facts.invariant ∙ none_left (λ facts. has_name facts.code c.args.name.now) items c.loop-facts.facts-index c.loop-facts-test.false in
    record { named = tt; unknown = unknown items c.args.name.now c.all_facts-facts-items.ensures.codes none }
