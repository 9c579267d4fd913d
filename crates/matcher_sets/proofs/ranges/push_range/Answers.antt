use Rattle.matcher_code.specs.Lists.{is_covered}
use Rattle.std.proofs.Common.{◌≡◌, ◌∙◌, ◌++◌, ◌∷◌, [], ap, arith, ◌||◌}
use Rattle.std.proofs.lemmas.Grind.{common_steps}
use Rattle.matcher_sets.proofs.Ranging.{covered-append, or_none}
use Rattle.base_language.specs.Language.Builtins.{is_between}
use Rattle.matcher_sets.proofs.ranges.push_range.Goals as goal

pub returns : goal.returns
returns c = λ x h.
    let e : c.push.new.self.items ≡ c.args.ranges.now.items ++ (c.args.low, c.args.high) ∷ [] = grind (arith, common_steps) in
    ap (λ rs. is_covered rs x) e ∙ (covered-append c.args.ranges.now.items ((c.args.low, c.args.high) ∷ []) x
    ∙ ap (λ b. is_covered c.args.ranges.now.items x || b) (or_none (is_between c.args.low c.args.high x)))
