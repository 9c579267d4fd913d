use Rattle.std.proofs.Common.{◌∙◌, ap, sym, Bool, encode_utf8_all}
use Rattle.base_language.specs.Language.Text.{Text}
use Rattle.matcher_program.specs.ExpectedNames.{name_texts}
use Rattle.pest_run.specs.RuleNames.{is_near}
use Rattle.pest_run.proofs.RuleNames.{text_passed, text_pushed}
use Rattle.pest_run.proofs.rule_names.near_names.Goals as goal
use Rattle.pest_run.proofs.rule_names.near_names.Goals.{then-branch+in_ok-push, else-branch}

pub loop-other-preserved : goal.loop-other-preserved
loop-other-preserved c =
    let f : Text → Bool = λ n. is_near c.args.name.now (encode_utf8_all n) in
    elim c.if-branch.branch [
      | then-branch+in_ok-push w ↦
          ap (λ v. name_texts v.items) w.near-is
          ∙ text_pushed c.args.names.now c.loop-other.other-index _ c.loop-other-test.true f c.loop-other.near.items w.push.new.self.items
          (sym w.if-branch.true ∙ c.in_ok-is_near_text.ensures) w.in_ok-push.ensures.items c.loop-other.invariant
      | else-branch w ↦
          ap (λ v. name_texts v.items) w.near-is
          ∙ text_passed c.args.names.now c.loop-other.other-index _ c.loop-other-test.true f c.loop-other.near.items (sym w.if-branch.false ∙ c.in_ok-is_near_text.ensures) c.loop-other.invariant
    ]
