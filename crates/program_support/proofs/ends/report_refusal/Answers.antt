use Rattle.std.proofs.Common.{string_bytes, subst}
use Rattle.program_support.specs.Ends.{WritesLine}
use Rattle.program_support.proofs.ends.report_refusal.Goals as goal

pub returns-in-Ok-clause-tells : goal.returns-in-Ok-clause-tells
returns-in-Ok-clause-tells g c = λ one. record {
  report = string_bytes c.in-Ok.report;
  shows = c.in-Ok.ensures;
  line = subst (λ text. WritesLine text c.exit_with.result.write_result (g.E.Write.contents c.args.err.now.writer) (g.E.Write.contents c.exit_with.new.err.writer)) c.as_str.ensures.value c.exit_with.ensures.tells;
}
