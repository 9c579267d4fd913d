use Rattle.std.proofs.Common.{◌∙◌, ◌&&◌, ap₂}
use Rattle.std.specs.Prelude.{not}
use Rattle.base_language.specs.Language.Matching.{character_outcome}
use Rattle.matcher_code.specs.Failures.{in_silence}
use Rattle.matcher_code.specs.Laid as lay
use Rattle.matcher_sets.proofs.Excluding.{other_matches}
use Rattle.matcher_compiler.proofs.Growing.{later_twice}
use Rattle.matcher_sets.proofs.Leaves.{one_as}
use Rattle.matcher_sets.specs.Modes.{mode_of}
use Rattle.matcher_compiler.specs.Names.{number_in}
use Rattle.matcher_sets.specs.Forms.{grammar_in, said}
use Rattle.matcher_compiler.proofs.plan.Plan.other_character.Goals as goal

pub returns-clause-later : goal.returns-clause-later
returns-clause-later c = later_twice c.args.program.now _ _ _ (c.in_ok-set.ensures.later c.args.program.now) (c.in_ok-operation.ensures.later c.args.program.now)

pub returns-clause-lays : goal.returns-clause-lays
returns-clause-lays c = λ classes fits code laid m.
    let p = c.args.program.now in
    let m1 = (c.in_ok-operation.ensures.later p).met code laid m in
    let x = c.requires.refused classes fits in
    let y = c.requires.ranges classes fits in
    let d = c.in_ok-set.ensures.means p code laid m1 in
    let i = c.args.at.mode in
    lay.leaf (character_outcome (λ k. not (x.characters k) && y.characters k)) in_silence
    (other_matches (grammar_in p) classes (mode_of i) (said p c.args.first.now) (said p c.args.second.now) x.characters y.characters (c.requires.tight classes) (x.holds i) (y.holds i))
    (one_as d.ranges (λ k. not (x.characters k) && y.characters k) (λ k l. d.covers k l ∙ ap₂ (λ a b. not a && b) (x.covers k l) (y.covers k l))
    code (number_in (grammar_in p)) m.fail c.in_ok-set.set d.is c.args.at.label c.args.at.next c.args.at.on_fail (c.in_ok-operation.ensures.met p code laid m))
