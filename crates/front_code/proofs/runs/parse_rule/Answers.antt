use Rattle.std.proofs.Common.{◌+◌, ◌<◌, ap, refl, sym, subst, arith, false, length}
use Rattle.base_language.specs.Language.State.{NonAtomicMode}
use Rattle.front_grammar.specs.Outcomes.{start_of}
use Rattle.matcher_code.specs.Bytecodes.{lists_in}
use Rattle.front_code.specs.Runs.{Parses}
use Rattle.front_code.proofs.Fast.{fast_code}
use Rattle.front_code.proofs.Results.{IsFresh, IsTaken, has_failed, has_matched, is_failure, is_match}
use Rattle.front_code.proofs.runs.parse_rule.Goals as goal

pub returns-in-Found : goal.returns-in-Found
returns-in-Found c =
    let code = lists_in c.fast_code.result.code in
    let old = c.new-machine.result in
    let new = c.run_with_memory.new.self in
    let run = c.result_of.result in
    let m = c.new-machine.ensures in
    let begins : IsFresh old old.asked = record { frames = m.frames; trees = m.trees; pushed = m.pushed; furthest = m.furthest; asked = refl; names = m.names } in
    let taken : IsTaken new run = record { trees = c.result_of.ensures.trees; furthest = c.result_of.ensures.furthest; names = c.result_of.ensures.names } in
    let asks : length c.args.text.now < old.asked = omega (arith, c.if-text.false, m.asked) in
    subst (λ e. Parses c.args.rule c.args.text.now run e) (sym c.result_of.ensures.end)
    (λ classes.
    let d = c.each_rule_has_one_outcome.ensures.has_one classes c.args.rule NonAtomicMode (start_of c.args.text.now) in
    is_match (has_matched false classes code (fast_code classes code c.fast_code.ensures.code) c.args.rule c.args.text.now c.utf8.text (λ i. omega (arith, c.type_inv.text i)) old.asked (asks, asks)
    old new begins _ run taken c.in-Found.end _ c.in_ok-end.end (ap (λ n. n + 3) c.rule_number-entry.ensures.number) c.in-Found.is (c.in_ok-end.ensures c.fast_code.ensures.fused) d.0 d.1))

pub returns-in-Failed : goal.returns-in-Failed
returns-in-Failed c =
    let code = lists_in c.fast_code.result.code in
    let old = c.new-machine.result in
    let new = c.run_with_memory.new.self in
    let run = c.result_of-in-Failed.result in
    let m = c.new-machine.ensures in
    let begins : IsFresh old old.asked = record { frames = m.frames; trees = m.trees; pushed = m.pushed; furthest = m.furthest; asked = refl; names = m.names } in
    let taken : IsTaken new run = record { trees = c.result_of-in-Failed.ensures.trees; furthest = c.result_of-in-Failed.ensures.furthest; names = c.result_of-in-Failed.ensures.names } in
    let asks : length c.args.text.now < old.asked = omega (arith, c.if-text.false, m.asked) in
    subst (λ e. Parses c.args.rule c.args.text.now run e) (sym c.result_of-in-Failed.ensures.end)
    (λ classes.
    let d = c.each_rule_has_one_outcome.ensures.has_one classes c.args.rule NonAtomicMode (start_of c.args.text.now) in
    is_failure (has_failed false classes code (fast_code classes code c.fast_code.ensures.code) c.args.rule c.args.text.now c.utf8.text (λ i. omega (arith, c.type_inv.text i)) old.asked (asks, asks)
    old new begins _ run taken _ c.in_ok-end.end (ap (λ n. n + 3) c.rule_number-entry.ensures.number) c.in-Failed.is (c.in_ok-end.ensures c.fast_code.ensures.fused) d.0 d.1))
