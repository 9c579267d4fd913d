use Rattle.std.proofs.Common.{◌≡◌, ◌<◌, ◌∙◌, List, [], ◌∷◌, ℕ, zero, suc, arith, get_or, length, refl, subst}
use Rattle.std.specs.Prelude.{IfSome}
use Rattle.std.proofs.lemmas.Grind.{common_steps}
use Rattle.matcher_program.specs.declared.form.ProgramRule.{ProgramRule}
use Rattle.matcher_sets.specs.Forms.{said}
use Rattle.matcher_sets.specs.FirstSets.{HasFirstSet}
use Rattle.matcher_sets.specs.Modes.{mode_of}
use Rattle.matcher_sets.proofs.learning.learn.Goals as goal

same_default : (xs : List ProgramRule) (j : ℕ) (a b : ProgramRule) → j < length xs → get_or xs j a ≡ get_or xs j b
same_default [] j a b l = absurd (omega (arith, l))
same_default (x ∷ xs) zero a b l = refl
same_default (x ∷ xs) (suc j) a b l = same_default xs j a b (omega (arith, l))

pub returns : goal.returns
returns c =
    let p = c.args.program.now in
    let is : c.in-Some.program_rule.now ≡ get_or p.rules.items c.args.rule c.in-Some.program_rule.now = grind (arith, common_steps) in
    c.set_first_set.ensures p c.requires.first_sets (λ (d : ProgramRule) (l : c.args.rule < length p.rules.items).
    subst (λ r. IfSome c.in_ok-made.made (HasFirstSet p (mode_of c.args.mode) (said p r.body))) (is ∙ same_default p.rules.items c.args.rule c.in-Some.program_rule.now d l) c.in_ok-made.ensures)
