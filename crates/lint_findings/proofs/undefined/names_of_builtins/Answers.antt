use Rattle.std.proofs.Common.{◌∙◌, ap}
use Rattle.std.specs.Prelude.{map}
use Rattle.std.proofs.lemmas.List.{take_all}
use Rattle.front_names.specs.Builtins.{name_of}
use Rattle.front_names.proofs.BuiltinLemmas.{names_of_all}
use Rattle.lint_findings.proofs.Helping.{one_name_more}
use Rattle.lint_findings.proofs.undefined.names_of_builtins.Goals as goal

pub loop-builtin-preserved : goal.loop-builtin-preserved
loop-builtin-preserved c =
    one_name_more name_of c.all-builtin-items.result.now c.loop-builtin.builtin-index _ c.loop-builtin.names.items c.push.new.self.items c.name.result
    c.loop-builtin-test.true c.in_ok-push.ensures.items c.name.ensures c.loop-builtin.invariant

pub returns : goal.returns
returns c =
    c.loop-builtin.invariant
    ∙ (ap (map name_of) (take_all c.loop-builtin.builtin-index c.all-builtin-items.result.now c.loop-builtin-test.false)
    ∙ names_of_all c.all-builtin-items.result.now c.all-builtin-items.ensures)
