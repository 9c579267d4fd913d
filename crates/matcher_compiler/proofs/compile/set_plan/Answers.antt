use Rattle.std.proofs.Common.{◌≡◌, ◌∙◌, ◌<◌, None, arith, false, length, subst, sym}
use Rattle.std.proofs.lemmas.Grind.{common_steps}
use Rattle.base_language.specs.Language.Expression.{comment, rule_of}
use Rattle.matcher_program.specs.Programs.{IsSkippedRule}
use Rattle.matcher_sets.specs.Forms.{grammar_in}
use Rattle.matcher_compiler.specs.Plans.{IsBlankSet, SkipsAs}
use Rattle.matcher_compiler.proofs.Skipping.{skips_ready}
use Rattle.matcher_compiler.proofs.compile.set_plan.Goals as goal

pub returns-clause-ready : goal.returns-clause-ready
returns-clause-ready c =
    let p = c.args.program.now in
    let l : c.in_ok-set.set < length c.add_set.new.code.ranges.items = grind (arith, common_steps) in
    let r : IsBlankSet p c.add_set.new.code c.in_ok-set.set = record {
      ranges = c.args.ranges.items;
      within = l;
      is = c.in_ok-set.ensures.means;
      blank = c.requires.blanks;
    } in
    let note : c.args.comments ≡ false → rule_of (grammar_in p) comment ≡ None =
    λ e. subst (IsSkippedRule (grammar_in p) comment) (c.requires.note e) c.requires.sound.comment_is in
    subst (λ s. SkipsAs p s c.in_ok-plan.plan.skips) (sym c.in_ok-plan.ensures.sets)
    (subst (λ b. SkipsAs p c.add_set.new.code b) (sym (c.in_ok-plan.ensures.skips ∙ c.skips_with-skips.ensures))
    (skips_ready p c.add_set.new.code c.in_ok-set.set c.args.comments note r))
