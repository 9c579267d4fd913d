use Rattle.std.proofs.Common.{◌∙◌, ap, sym, chars}
use Rattle.front_stack_loops.proofs.Builtins.{listed_kind, other_kind}
use Rattle.front_stack_loops.proofs.names.kind_of_other.Goals as goal

pub returns-in-Some : goal.returns-in-Some
returns-in-Some c = listed_kind c.in-Some.builtin _ _ (ap chars (sym c.as_str.ensures.value) ∙ c.in-Some.ensures.named) c.kind_of_builtin.ensures

pub returns-in-None : goal.returns-in-None
returns-in-None c = let h = rw c.as_str.ensures.value at c.in-None.ensures.unnamed in other_kind _ h
