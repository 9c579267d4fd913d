use Rattle.std.proofs.Common.{arith}
use Rattle.base_language.proofs.LettingGo.{nothing_left}
use Rattle.format_json.proofs.NoArguments.{one_of, two_of}
use Rattle.format_json.proofs.NoNodes.{too_many}
use Rattle.format_json.proofs.nodes.node_of.Goals as goal

pub returns-in-empty-clause-refused : goal.returns-in-empty-clause-refused
returns-in-empty-clause-refused c =
    rw (nothing_left c.args.arguments.now (omega (arith, c.in-empty.len_below))) c.node_alone.ensures.refused

pub returns-in-len1-clause-refused : goal.returns-in-len1-clause-refused
returns-in-len1-clause-refused c =
    rw (one_of c.args.arguments.now c.one-item.result c.one-item.is (omega (arith, c.in-len1.len_at_least)) (omega (arith, c.in-len1.len_below))) c.node_with.ensures.refused

pub returns-in-len2-clause-refused : goal.returns-in-len2-clause-refused
returns-in-len2-clause-refused c =
    rw (two_of c.args.arguments.now c.first-item.result c.second-item.result c.first-item.is c.second-item.is (omega (arith, c.in-len2.len_at_least)) (omega (arith, c.in-len2.len_below))) c.node_with_two.ensures.refused

pub returns-in_default-clause-refused : goal.returns-in_default-clause-refused
returns-in_default-clause-refused c = too_many c.args.form.now c.args.arguments.now (omega (arith, c.in_default.len_at_least))
