use Rattle.std.proofs.Common.{◌≡◌, ◌∙◌, subst, ℕ, List}
use Rattle.std.specs.Io.KnownBytes.{Appends}
use Rattle.pest_check.proofs.Reported.{where_printed}
use Rattle.pest_check.proofs.checks.print_rules.Goals as goal

pub returns-in-Ok-clause-printed : goal.returns-in-Ok-clause-printed
returns-in-Ok-clause-printed g c zero =
    let P : List ℕ → Type 0 = λ text. Appends (g.W.Write.contents c.args.out.now.writer) (g.W.Write.contents c.write_text-written.new.self.writer) text in
    subst P (c.as_str.ensures.value ∙ c.in-Ok.ensures) (where_printed c.write_text-written.result c.exit_after_write.result.status _ c.write_text-written.ensures.gained c.exit_after_write.ensures.unwritten zero)
