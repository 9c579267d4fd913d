use Rattle.std.proofs.Common.{◌∷◌, [], ap, length, ◌∙◌, arith}
use Rattle.std.proofs.lemmas.List.{length-append}
use Rattle.lint_warnings.proofs.beginners.first_beginner.Goals as goal

pub loop-alternative-smaller : goal.loop-alternative-smaller
loop-alternative-smaller c =
    let e = ap length c.in-Some.ensures.items ∙ length-append c.pop.new.self.items (c.in-Some.alternative ∷ []) in
    omega arith
