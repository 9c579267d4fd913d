use Rattle.std.proofs.Common.{◌+◌, ap, refl, sym, subst, arith, true}
use Rattle.base_language.specs.Language.State.{NonAtomicMode}
use Rattle.front_grammar.specs.Outcomes.{start_of}
use Rattle.matcher_code.specs.Bytecodes.{lists_in}
use Rattle.front_code.specs.Runs.{HasEnded}
use Rattle.front_code.proofs.Exact.{exact_code}
use Rattle.front_code.proofs.Results.{IsFresh, IsTaken, has_failed, has_matched}
use Rattle.front_code.proofs.runs.run_rule.Goals as goal

pub returns-in-Found : goal.returns-in-Found
returns-in-Found c =
    let code = lists_in c.exact_code.result.code in
    let old = record c.new-machine.result { asked = c.args.place } in
    let new = c.run_with_memory.new.self in
    let run = c.result_of.result in
    let m = c.new-machine.ensures in
    let begins : IsFresh old c.args.place = record { frames = m.frames; trees = m.trees; pushed = m.pushed; furthest = m.furthest; asked = refl; names = m.names } in
    let taken : IsTaken new run = record { trees = c.result_of.ensures.trees; furthest = c.result_of.ensures.furthest; names = c.result_of.ensures.names } in
    subst (λ e. HasEnded c.args.rule c.args.text.now c.args.place run e) (sym c.result_of.ensures.end)
    (λ classes.
    let d = c.each_rule_has_one_outcome.ensures.has_one classes c.args.rule NonAtomicMode (start_of c.args.text.now) in
    has_matched true classes code (exact_code classes code c.exact_code.ensures.code) c.args.rule c.args.text.now c.utf8.text (λ i. omega (arith, c.type_inv.text i)) c.args.place tt
    old new begins _ run taken c.in-Found.end _ c.in_ok-end.end (ap (λ n. n + 3) c.rule_number-entry.ensures.number) c.in-Found.is (c.in_ok-end.ensures c.exact_code.ensures.fused) d.0 d.1)

pub returns-in-Failed : goal.returns-in-Failed
returns-in-Failed c =
    let code = lists_in c.exact_code.result.code in
    let old = record c.new-machine.result { asked = c.args.place } in
    let new = c.run_with_memory.new.self in
    let run = c.result_of-in-Failed.result in
    let m = c.new-machine.ensures in
    let begins : IsFresh old c.args.place = record { frames = m.frames; trees = m.trees; pushed = m.pushed; furthest = m.furthest; asked = refl; names = m.names } in
    let taken : IsTaken new run = record { trees = c.result_of-in-Failed.ensures.trees; furthest = c.result_of-in-Failed.ensures.furthest; names = c.result_of-in-Failed.ensures.names } in
    subst (λ e. HasEnded c.args.rule c.args.text.now c.args.place run e) (sym c.result_of-in-Failed.ensures.end)
    (λ classes.
    let d = c.each_rule_has_one_outcome.ensures.has_one classes c.args.rule NonAtomicMode (start_of c.args.text.now) in
    has_failed true classes code (exact_code classes code c.exact_code.ensures.code) c.args.rule c.args.text.now c.utf8.text (λ i. omega (arith, c.type_inv.text i)) c.args.place tt
    old new begins _ run taken _ c.in_ok-end.end (ap (λ n. n + 3) c.rule_number-entry.ensures.number) c.in-Failed.is (c.in_ok-end.ensures c.exact_code.ensures.fused) d.0 d.1)
