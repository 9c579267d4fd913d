use Rattle.std.proofs.Common.{◌∙◌, ℕ, List, [], ◌∷◌, string_bytes, subst}
use Rattle.std.specs.Io.KnownBytes.{Appends}
use Rattle.pest_lint.proofs.Printing.{both_gains, no_gain, zip_end, zip_next}
use Rattle.pest_lint.proofs.lint.print_all.Goals as goal

pub loop-diagnostic-preserved : goal.loop-diagnostic-preserved
loop-diagnostic-preserved g c =
    let P : List ℕ → Type 0 = λ t. Appends (g.W.Write.contents c.loop-diagnostic.out.writer) (g.W.Write.contents c.write_text.new.self.writer) t in
    let gains : P (string_bytes c.in-Ok.text) = subst P c.as_str.ensures.value c.in-Ok-write_text.ensures.gained in
    record {
      taken = c.in-Ok-write_text.ensures.taken ∙ c.loop-diagnostic.invariant.taken;
      rest = λ indexed texts final each gained.
          c.loop-diagnostic.invariant.rest indexed (string_bytes c.in-Ok.text ∷ texts) final
          (zip_next _ c.args.diagnostics.now c.loop-diagnostic.diagnostic-index c.diagnostic-item.result _ texts c.diagnostic-item.is c.loop-diagnostic-test.true (c.in-Ok.ensures.exact indexed) each)
          (both_gains _ _ final _ _ gains gained);
    }

pub returns-clause-shows : goal.returns-clause-shows
returns-clause-shows g c = λ indexed zero.
    c.loop-diagnostic.invariant.rest indexed [] _ (zip_end _ c.args.diagnostics.now c.loop-diagnostic.diagnostic-index c.loop-diagnostic-test.false) (no_gain _)
