use Rattle.std.proofs.Common.{◌∙◌, ap, sym, chars}
use Rattle.front_analysis.proofs.Ends.{listed_end, other_end}
use Rattle.front_analysis.proofs.names.is_end.Goals as goal

pub returns-in-Some : goal.returns-in-Some
returns-in-Some c = listed_end c.in-Some.builtin _ _ (ap chars (sym c.as_str.ensures.value) ∙ c.in-Some.ensures.named) c.is_nullable.ensures

pub returns-in-None : goal.returns-in-None
returns-in-None c = let h = rw c.as_str.ensures.value at c.in-None.ensures.unnamed in other_end _ h
