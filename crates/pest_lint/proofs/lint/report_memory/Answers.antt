use Rattle.std.proofs.Common.{◌∙◌, ◌++◌, ap, codes, inr, refl}
use Rattle.lint_output.specs.Visible.{visible}
use Rattle.pest_lint.proofs.Telling.{told}
use Rattle.pest_lint.proofs.lint.report_memory.Goals as goal

pub returns : goal.returns
returns g c =
    told c.write_line.result _ _ _ _ _
    (ap (λ name. codes "out of memory at " ++ (name ++ codes "\n")) (c.as_str-name.ensures.value ∙ (c.in-Ok.ensures ∙ ap visible c.as_str.ensures.value)))
    c.write_line.ensures.gained c.write_line.ensures.refused

pub returns-in_default : goal.returns-in_default
returns-in_default g c = inr (inr refl)
