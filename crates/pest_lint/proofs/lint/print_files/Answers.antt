use Rattle.std.proofs.Common.{◌≡◌, ◌∙◌, [], ◌∷◌, arith}
use Rattle.pest_lint.specs.Shows.{IsClean}
use Rattle.pest_lint.proofs.Printing.{all_more, all_of, both_gains, no_gain, zip_end, zip_next}
use Rattle.pest_lint.proofs.lint.print_files.Goals as goal

pub loop-source-preserved : goal.loop-source-preserved
loop-source-preserved g c =
    let m = c.max-status.ensures in
    let a = c.loop-source.invariant.known in
    let b = c.print_file-one.ensures.known in
    let gains = c.print_file-one.ensures.shows (λ e. omega (arith, e)) (λ e. omega (arith, e)) in
    record {
      known = omega arith;
      clean = λ zero.
          let s : c.loop-source.status ≡ 0 = omega arith in
          let o : c.print_file-one.result ≡ 0 = omega arith in
          all_more IsClean c.args.sources.now c.loop-source.source-index c.source-item.result c.loop-source-test.true c.source-item.is (c.loop-source.invariant.clean s) (c.print_file-one.ensures.clean o);
      taken = c.print_file-one.ensures.taken (λ e. omega (arith, e)) ∙ c.loop-source.invariant.taken;
      rest = λ looks n final each whole gained.
          c.loop-source.invariant.rest (record { bytes = gains.0; status = c.print_file-one.result } ∷ looks) n final
          (zip_next _ c.args.sources.now c.loop-source.source-index c.source-item.result _ looks c.source-item.is c.loop-source-test.true gains.1 each)
          (omega (arith, whole, m))
          (both_gains _ _ final gains.0 _ gains.2 gained);
    }

pub returns-clause-clean : goal.returns-clause-clean
returns-clause-clean g c = λ zero. all_of IsClean c.args.sources.now c.loop-source.source-index c.loop-source-test.false (c.loop-source.invariant.clean zero)

pub returns-clause-shows : goal.returns-clause-shows
returns-clause-shows g c = λ not_two not_four.
    c.loop-source.invariant.rest [] c.loop-source.status _ (zip_end _ c.args.sources.now c.loop-source.source-index c.loop-source-test.false) (omega arith) (no_gain _)
