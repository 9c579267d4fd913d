use Rattle.std.proofs.Common.{refl}
use Rattle.front_reader.proofs.ReadRules.{silent_tree, atomic_tree, compound_atomic_tree, non_atomic_tree, no_modifier}
use Rattle.front_reader.proofs.rules.modifier.Goals as goal

pub returns-in-silent_modifier : goal.returns-in-silent_modifier
returns-in-silent_modifier c = rw (c.leading_tree-sign.ensures, c.in-silent_modifier.is) (silent_tree (rw (c.leading_tree-sign.ensures, c.in-silent_modifier.is) at c.requires))

pub returns-in-atomic_modifier : goal.returns-in-atomic_modifier
returns-in-atomic_modifier c = rw (c.leading_tree-sign.ensures, c.in-atomic_modifier.is) (atomic_tree (rw (c.leading_tree-sign.ensures, c.in-atomic_modifier.is) at c.requires))

pub returns-in-compound_atomic_modifier : goal.returns-in-compound_atomic_modifier
returns-in-compound_atomic_modifier c = rw (c.leading_tree-sign.ensures, c.in-compound_atomic_modifier.is) (compound_atomic_tree (rw (c.leading_tree-sign.ensures, c.in-compound_atomic_modifier.is) at c.requires))

pub returns-in-non_atomic_modifier : goal.returns-in-non_atomic_modifier
returns-in-non_atomic_modifier c = rw (c.leading_tree-sign.ensures, c.in-non_atomic_modifier.is) (non_atomic_tree (rw (c.leading_tree-sign.ensures, c.in-non_atomic_modifier.is) at c.requires))

pub returns-in_default : goal.returns-in_default
returns-in_default c =
    let d = c.in_default in
    rw c.leading_tree-sign.ensures (no_modifier c.leading_tree-sign.result.rule (rw c.leading_tree-sign.ensures at c.requires) refl d.not-silent_modifier d.not-atomic_modifier d.not-compound_atomic_modifier d.not-non_atomic_modifier)
