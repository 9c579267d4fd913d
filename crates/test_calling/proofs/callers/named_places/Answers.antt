use Rattle.front_spanned.specs.Nodes.{rule_views}
use Rattle.test_calling.proofs.Named.{are_named}
use Rattle.test_calling.proofs.callers.named_places.Goals as goal

pub returns : goal.returns
returns c =
    let parsed = c.in_ok-pairs.ensures in
    are_named c.args.grammar.now c.in_ok-pairs.pairs (rule_views c.in_ok-rules.rules.items) c.in_ok-places.field-0.items
    parsed.text parsed.spelled c.in_ok-rules.ensures.rules c.in_ok-places.ensures
