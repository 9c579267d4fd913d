use Rattle.std.proofs.Common.{ap, ◌∙◌, refl}
use Rattle.matcher_program.specs.Compiled.{names_in}
use Rattle.matcher_program.specs.Forming.{with_operand}
use Rattle.matcher_program.specs.Programs.{expression_of}
use Rattle.matcher_program.proofs.forms.resume.Goals as goal

pub returns-clause-says : goal.returns-clause-says
returns-clause-says c = λ g ps bound.
    let same = c.in_ok-form.ensures.same g ps (expression_of (names_in g) c.args.operand) (record { says = refl; bound = bound }) in
    c.resume_boxed.ensures.says (names_in g) ∙ ap (with_operand (names_in g) c.args.around) same.says

pub returns-clause-sound : goal.returns-clause-sound
returns-clause-sound c = λ g ps ready bound.
    let same = c.in_ok-form.ensures.same g ps (expression_of (names_in g) c.args.operand) (record { says = refl; bound = bound }) in
    c.resume_boxed.ensures.sound g ps ready same.bound
