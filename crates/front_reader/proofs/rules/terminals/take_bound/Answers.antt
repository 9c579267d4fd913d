use mir.Val.{SFits}
use Rattle.std.proofs.Common.{refl, rules, w32}
use Rattle.std.proofs.lemmas.Int.{to_z-of_z}
use Rattle.std.proofs.lemmas.Result.{err_from_is_err_and}
use Rattle.front_reader.proofs.FlawsInOrder.{first_in}
use Rattle.front_reader.proofs.Terminals.{number_first, no_number}
use Rattle.front_reader.proofs.rules.terminals.take_bound.Goals as goal

pub slice_number-requires-clause-digits : goal.slice_number-requires-clause-digits
slice_number-requires-clause-digits c = let h = number_first (rw (c.leading_tree-tree.ensures, c.in-integer.is) at c.requires.shape) in h.digits

pub returns-in_err-n-in-integer : goal.returns-in_err-n-in-integer
returns-in_err-n-in-integer c =
    let h = number_first (rw (c.leading_tree-tree.ensures, c.in-integer.is) at c.requires.shape) in
    let p = err_from_is_err_and c.from_residual.result c.from_residual.ensures.1 in
    rw (p.1, p.2, c.leading_tree-tree.ensures, c.in-integer.is, h.flaw) (first_in _ _ _ c.in_err-n-in-integer.ensures)

pub returns-in_ok-n-in-integer : goal.returns-in_ok-n-in-integer
returns-in_ok-n-in-integer c =
    let h = number_first (rw (c.leading_tree-tree.ensures, c.in-integer.is) at c.requires.shape) in
    let f : SFits w32 c.in_ok-n-in-integer.n = search rules in
    let e = c.in_ok-n-in-integer.ensures in
    rw (c.leading_tree-tree.ensures, c.in-integer.is, to_z-of_z w32 c.in_ok-n-in-integer.n f)
    record { takes = rw e.1 h.takes; flaws = rw (h.flaw, e.0) refl }

pub returns-in_default : goal.returns-in_default
returns-in_default c =
    let h = no_number c.leading_tree-tree.result.rule (rw c.leading_tree-tree.ensures at c.requires.shape) refl c.in_default.not-integer in
    record { takes = rw c.leading_tree-tree.ensures h; flaws = refl }
