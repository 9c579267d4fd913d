use Rattle.std.proofs.Common.{◌≡◌, ◌∙◌, ◌++◌, ◌||◌, ap, arith, subst, sym}
use Rattle.std.proofs.lemmas.Grind.{common_steps}
use Rattle.base_language.specs.Language.Matching.{character_outcome}
use Rattle.base_language.specs.Language.Meaning.{Run}
use Rattle.matcher_code.specs.Lists.{is_covered}
use Rattle.matcher_code.specs.Failures.{in_silence}
use Rattle.matcher_code.specs.Laid.{HasOutcome}
use Rattle.matcher_program.specs.Programs.{characters_of}
use Rattle.matcher_sets.specs.Modes.{mode_of}
use Rattle.matcher_sets.specs.Forms.{grammar_in}
use Rattle.matcher_sets.proofs.Leaves.{set_outcome}
use Rattle.matcher_sets.proofs.Ranging.{covered-append}
use Rattle.matcher_sets.proofs.difference.push_included.Goals as goal

pub ranges_of-requires : goal.ranges_of-requires
ranges_of-requires c = (c.in-Some.ensures c.args.program.now c.requires.bound).one

pub returns-in_ok-extend_from_slice-in-Some : goal.returns-in_ok-extend_from_slice-in-Some
returns-in_ok-extend_from_slice-in-Some c = λ h classes fits.
    let p = c.args.program.now in
    let x = c.in-Some.ensures p c.requires.bound in
    let set = c.in-Some.set.now in
    let e : c.extend_from_slice.new.self.items ≡ c.args.ranges.now.items ++ c.deref.result.now = grind (arith, common_steps) in
    record {
      characters = characters_of set;
      holds = λ m.
          subst (λ y. HasOutcome (grammar_in p) classes (Run (mode_of m) y) (character_outcome (characters_of set)) in_silence) (sym x.same) (set_outcome p classes m set x.one x.bound);
      adds = λ y l.
          ap (λ rs. is_covered rs y) e ∙ (covered-append c.args.ranges.now.items c.deref.result.now y
          ∙ ap (λ b. is_covered c.args.ranges.now.items y || b) (ap (λ rs. is_covered rs y) c.deref.ensures.value ∙ c.in_ok-more-in-Some.ensures y l));
    }
