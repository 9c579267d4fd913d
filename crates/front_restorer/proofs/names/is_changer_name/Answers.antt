use Rattle.std.proofs.Common.{◌∙◌, ap, sym, chars}
use Rattle.front_restorer.proofs.Changers.{listed_changer, other_changer}
use Rattle.front_restorer.proofs.names.is_changer_name.Goals as goal

pub returns-in-Some : goal.returns-in-Some
returns-in-Some c = listed_changer c.in-Some.builtin _ _ (ap chars (sym c.as_str.ensures.value) ∙ c.in-Some.ensures.named) c.changes_stack.ensures

pub returns-in-None : goal.returns-in-None
returns-in-None c = let h = rw c.as_str.ensures.value at c.in-None.ensures.unnamed in other_changer _ h
