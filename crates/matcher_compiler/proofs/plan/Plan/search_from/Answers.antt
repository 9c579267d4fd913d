use Rattle.std.proofs.Common.{map, refl}
use Rattle.base_ast.specs.Ast.{text_of}
use Rattle.base_language.specs.Language.Matching.{distance}
use Rattle.base_language.specs.Language.Meaning as by
use Rattle.base_language.specs.Language.State.{None', Success, moved}
use Rattle.matcher_code.specs.Failures.{in_silence}
use Rattle.matcher_code.specs.Laid as lay
use Rattle.matcher_code.proofs.Until.{until_performs}
use Rattle.matcher_compiler.proofs.Growing.{later_twice}
use Rattle.matcher_compiler.specs.Names.{number_in}
use Rattle.matcher_sets.specs.Forms.{grammar_in}
use Rattle.matcher_compiler.proofs.plan.Plan.search_from.Goals as goal

pub returns-clause-later : goal.returns-clause-later
returns-clause-later c =
    let p = c.args.program.now in
    later_twice p _ _ _ (later_twice p _ _ _ (c.in_ok-firsts.ensures.later p) (c.in_ok-list.ensures.later p)) (c.in_ok-operation.ensures.later p)

pub returns-clause-lays : goal.returns-clause-lays
returns-clause-lays c = λ classes fits code laid m.
    let p = c.args.program.now in
    let ts = map text_of c.args.texts.now.items in
    let m2 = (c.in_ok-operation.ensures.later p).met code laid m in
    let m1 = (c.in_ok-list.ensures.later p).met code laid m2 in
    let x = c.in_ok-list.ensures.means p code laid m2 in
    lay.leaf (λ s. Success (moved (distance ts s.rest) s) None') in_silence (λ s. (by.skip, λ place. refl))
    (until_performs code c.in_ok-firsts.firsts c.in_ok-list.list ts
    (record { ranges = c.args.ranges.items; is = c.in_ok-firsts.ensures.means p code laid m1; starts = c.requires.starts; valid = x.valid; same = x.same })
    (number_in (grammar_in p)) m.fail c.args.at.label c.args.at.next c.args.at.on_fail (c.in_ok-operation.ensures.met p code laid m))
