use Rattle.std.proofs.Common.{◌≡◌, ◌∙◌, chars, false, length, subst, sym, true≢false}
use Rattle.matcher_compiler.specs.Names.{number_in}
use Rattle.matcher_program.specs.Answers.{start_of}
use Rattle.matcher_support.specs.Sets.{is_in_property}
use Rattle.pest_test.specs.Agreement.{Agree}
use Rattle.pest_test.specs.Verdicts.{IsAsExpected}
use Rattle.pest_test.proofs.Zipping.{whole_end}
use Rattle.pest_test.proofs.verdicts.judge_match.Goals.{then-not-case, else-not-case}
use Rattle.pest_test.proofs.verdicts.judge_match.Goals as goal

pub returns-then-branch : goal.returns-then-branch
returns-then-branch c = λ g rule compiled x.
    let case = c.args.case.now in
    let text = case.text.now in
    let whole : case.is_prefix ≡ false → x.state.position ≡ length text = λ wanted.
    elim c.if-not-case.branch [
      | then-not-case w ↦ sym x.ends ∙ whole_end _ _ (sym w.is_early-is ∙ c.if-is_early-2.false)
      | else-not-case w ↦ absurd (true≢false (sym w.if-not-case.false ∙ wanted))
    ] in (
      c.requires,
      subst (IsAsExpected g rule case) (sym c.in-Trees.is) (record {
        state = x.state;
        trees = x.trees;
        matches = x.found;
        whole = whole;
        are = subst (λ es. Agree text es x.trees) c.deref.ensures.value
            (c.in_ok-agrees-in-Trees.ensures (number_in g) x.trees (c.walk.ensures g compiled (chars rule) (start_of text) is_in_property x) c.if-branch.true);
      }),
    )
