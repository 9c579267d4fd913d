use Rattle.std.proofs.Common.{◌∙◌, codes, sym}
use Rattle.std.proofs.lemmas.Slice.Eq.{bytes_eq-Decides}
use Rattle.std.specs.Str.{chars}
use Rattle.pest_test.proofs.agreement.is_end.Goals as goal

pub returns : goal.returns
unfolding chars
returns c = λ yes. (bytes_eq-Decides (chars c.args.rule.now) (codes "EOI")).0 (sym c.same.ensures ∙ yes)
