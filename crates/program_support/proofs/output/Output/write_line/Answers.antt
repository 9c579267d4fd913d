use Rattle.std.proofs.Common.{◌∙◌}
use Rattle.program_support.proofs.LineParts.{line_break, on_ok, one_text}
use Rattle.program_support.proofs.output.Output.write_line.Goals as goal

pub loop-text-preserved : goal.loop-text-preserved
loop-text-preserved g c = record {
  taken = c.in_ok-write_text.ensures.taken ∙ c.loop-text.invariant.taken;
  gained = λ final rest. c.loop-text.invariant.gained final
      (one_text c.args.texts.now c.loop-text.text-index _ _ _ final c.loop-text-test.true c.in_ok-write_text.ensures.gained rest);
}

pub returns-clause-gained : goal.returns-clause-gained
returns-clause-gained g c =
    on_ok c.write_text-2.result _ _
    (λ gained. c.loop-text.invariant.gained _ (line_break c.args.texts.now c.loop-text.text-index _ _ c.loop-text-test.false gained))
    c.write_text-2.ensures.gained

pub returns-clause-taken : goal.returns-clause-taken
returns-clause-taken g c = on_ok c.write_text-2.result _ _ (λ taken. taken ∙ c.loop-text.invariant.taken) c.write_text-2.ensures.taken
