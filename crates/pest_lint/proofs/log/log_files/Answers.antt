use Rattle.std.proofs.Common.{◌≡◌, List, arith, map, subst, sym}
use Rattle.serde_json.specs.View.{view}
use Rattle.serde_json.specs.declared.value.Value.{Value}
use Rattle.pest_lint.specs.Shows.{IsClean, asked_of}
use Rattle.pest_lint.proofs.Logging.{GoesOn, begins, ends, logged_free, one_more}
use Rattle.pest_lint.proofs.Printing.{all_more, all_of}
use Rattle.pest_lint.proofs.log.log_files.Goals as goal

pub loop-source-init : goal.loop-source-init
loop-source-init g c = record {
  known = omega arith;
  clean = λ zero k d h. absurd (omega arith);
  logs = subst (λ (results : List Value). GoesOn (asked_of c.args.settings) c.args.sources.now 0 0 (map view results)) (sym c.new-results.ensures.items) (begins (asked_of c.args.settings) c.args.sources.now);
}

pub loop-source-preserved : goal.loop-source-preserved
loop-source-preserved g c =
    let m = c.max-status.ensures in
    let a = c.loop-source.invariant.known in
    let b = c.log_file-one.ensures.known in
    record {
      known = omega arith;
      clean = λ zero.
          let s : c.loop-source.status ≡ 0 = omega arith in
          let o : c.log_file-one.result ≡ 0 = omega arith in
          all_more IsClean c.args.sources.now c.loop-source.source-index c.source-item.result c.loop-source-test.true c.source-item.is (c.loop-source.invariant.clean s) (c.log_file-one.ensures.clean o);
      logs = one_more (asked_of c.args.settings) c.args.sources.now c.loop-source.source-index c.source-item.result c.loop-source.status c.log_file-one.result _ _ _ c.source-item.is c.loop-source-test.true m
          (c.log_file-one.ensures.logs (λ e. omega (arith, e))) c.loop-source.invariant.logs;
    }

pub returns-then-printed-eq-CLEAN-clause-clean : goal.returns-then-printed-eq-CLEAN-clause-clean
returns-then-printed-eq-CLEAN-clause-clean g c = λ zero. all_of IsClean c.args.sources.now c.loop-source.source-index c.loop-source-test.false (c.loop-source.invariant.clean zero)

pub returns-then-printed-eq-CLEAN-clause-logs : goal.returns-then-printed-eq-CLEAN-clause-logs
returns-then-printed-eq-CLEAN-clause-logs g c = λ not_two not_four.
    let logged = ends (asked_of c.args.settings) c.args.sources.now c.loop-source.source-index c.loop-source.status (map view c.loop-source.results.items) c.loop-source-test.false c.loop-source.invariant.logs in
    record {
      results = map view c.loop-source.results.items;
      logged = logged;
      gained = c.print_log-printed.ensures.logs c.if-printed-eq-CLEAN.true (logged_free _ _ _ _ logged);
    }

pub returns-else-printed-eq-CLEAN-clause-logs : goal.returns-else-printed-eq-CLEAN-clause-logs
returns-else-printed-eq-CLEAN-clause-logs g c = λ not_two not_four. absurd (c.if-printed-eq-CLEAN.false (c.print_log-printed.ensures.done not_two not_four))
