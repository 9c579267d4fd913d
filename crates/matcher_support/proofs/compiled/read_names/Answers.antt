use Rattle.std.proofs.Common.{◌∙◌, ◌<◌, arith, length, subst, sym}
use Rattle.std.specs.Prelude.{IsUtf8}
use Rattle.matcher_engine.specs.Blocks.{part_of}
use Rattle.matcher_support.proofs.CompiledNames.{name_is_utf8, one_name}
use Rattle.matcher_support.proofs.compiled.read_names.Goals as goal

pub returns-in_default-from_utf8 : goal.returns-in_default-from_utf8
returns-in_default-from_utf8 c = λ rules is.
    let l : c.loop-number.number < length (part_of c.args.block.now 3) = omega (arith, c.loop-number-test.true, c.in-Ok.ensures, c.rule_count.ensures) in
    c.in_default-from_utf8.ensures.cases.0 (subst IsUtf8 (sym c.rule_name.ensures) (name_is_utf8 rules c.args.block.now is c.loop-number.number l))

pub loop-number-preserved : goal.loop-number-preserved
loop-number-preserved c = λ rules is.
    let l : c.loop-number.number < length (part_of c.args.block.now 3) = omega (arith, c.loop-number-test.true, c.in-Ok.ensures, c.rule_count.ensures) in
    one_name rules c.args.block.now is c.loop-number.number c.loop-number.names.items c.push.new.self.items c.in-Ok-from_utf8.name l
    (c.in-Ok-from_utf8.ensures.cases.0 ∙ c.rule_name.ensures) c.in_ok-push.ensures.items (c.loop-number.invariant rules is)
