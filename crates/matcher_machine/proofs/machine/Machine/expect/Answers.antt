use Rattle.std.proofs.Common.{◌≡◌, ◌≤◌, ◌∙◌, sym, length, reverse, true, false, arith}
use Rattle.matcher_code.specs.Steps.{is_among}
use Rattle.matcher_code.proofs.Expected.{rule_there}
use Rattle.matcher_machine.proofs.Naming.{contained, named_longer, rule_added}
use Rattle.matcher_machine.proofs.machine.Machine.expect.Goals as goal

pub returns-then-contains-clause-expected : goal.returns-then-contains-clause-expected
returns-then-contains-clause-expected c =
    let names = c.args.self.now.names.items in
    let there : is_among names c.args.rule ≡ true =
    contained c.contains.result c.deref.result.now names c.args.rule c.contains.ensures.value c.deref.ensures.value ∙ c.if-contains.true in
    sym (rule_there names c.args.rule there)

pub invariant_of-self : goal.invariant_of-self
invariant_of-self c =
    let m = c.args.self.now in
    let v = c.push.new.self in
    let longer : length m.names.items ≤ length v.items = omega (arith, c.push.ensures.lower_bound, m.names.ok, v.ok) in
    let few : length v.items ≤ 65535 = omega (arith, c.push.ensures.upper_bound, m.names.ok, v.ok, c.len.ensures, c.if-len-ge65535.false) in
    record { held = m.held; named = named_longer _ _ (reverse m.frames.items) longer m.named; few = few }

pub returns-clause-expected : goal.returns-clause-expected
returns-clause-expected c =
    let names = c.args.self.now.names.items in
    let missing : is_among names c.args.rule ≡ false =
    contained c.contains.result c.deref.result.now names c.args.rule c.contains.ensures.value c.deref.ensures.value ∙ c.if-contains.false in
    c.in_ok-push.ensures.items ∙ sym (rule_added names c.args.rule missing)
