use Rattle.pest_meta_c.proofs.Lining.{diagnosed}
use Rattle.pest_meta_c.proofs.diagnostics.diagnostics_lines.Goals as goal

pub returns : goal.returns
returns c =
    diagnosed c.args.text.now c.in_ok-diagnostics.diagnostics.items _ c.lines_of.result c.in_ok-diagnostics.ensures.diagnosis c.in_ok-diagnostics.ensures.accepted c.deref.ensures.value c.lines_of.ensures
