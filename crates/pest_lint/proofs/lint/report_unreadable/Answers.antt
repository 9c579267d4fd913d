use Rattle.std.proofs.Common.{◌∙◌, ◌++◌, ap, codes, inr, refl, string_bytes}
use Rattle.lint_output.specs.Visible.{visible}
use Rattle.pest_lint.proofs.Telling.{told}
use Rattle.pest_lint.proofs.lint.report_unreadable.Goals as goal

pub returns-clause-told : goal.returns-clause-told
returns-clause-told g c =
    told c.write_line.result _ _ _ _ _
    (ap (λ name. codes "cannot read " ++ (name ++ (codes ": " ++ (c.reason_of-why.result.now ++ codes "\n")))) (c.as_str-name.ensures.value ∙ (c.in-Ok.ensures ∙ ap visible c.as_str.ensures.value))
    ∙ ap (λ why. codes "cannot read " ++ (visible (string_bytes c.args.source.now.name) ++ (codes ": " ++ (why ++ codes "\n")))) c.reason_of-why.ensures)
    c.write_line.ensures.gained c.write_line.ensures.refused

pub returns-in_default-clause-told : goal.returns-in_default-clause-told
returns-in_default-clause-told g c = inr (inr refl)
