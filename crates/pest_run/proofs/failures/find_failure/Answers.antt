use Rattle.std.proofs.Common.{◌≡◌, [], inl, inr, length, refl, rules, subst, vec_len}
use Rattle.matcher_support.specs.Compiled.{AreExpectedIn}
use Rattle.pest_run.proofs.Failing.{none_there}
use Rattle.pest_run.proofs.failures.find_failure.Goals as goal

pub returns-in-Some-clause-found : goal.returns-in-Some-clause-found
returns-in-Some-clause-found c = λ g of.
    let names = c.in_ok-positives.positives in
    let long : vec_len names ≡ length names.items = search rules in
    let empty : names.items ≡ [] = none_there names.items (vec_len names) c.is_empty.result long c.is_empty.ensures c.if-is_empty.true in
    let none = subst (λ ns. AreExpectedIn g c.args.rule.now c.args.text.now c.args.furthest ns) empty (c.in_ok-positives.ensures.expected g of) in
    inr (none, c.in-Some.ensures.attempts g of)

pub returns-clause-found : goal.returns-clause-found
returns-clause-found c = λ g of. inl (refl, c.in_ok-positives.ensures.expected g of, c.new.ensures.items)
