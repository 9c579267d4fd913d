-- Operators whose indices fit 32 bits, with one more.
use Rattle.std.proofs.Common.{List, [], ◌∷◌, ◌++◌}
use Rattle.format_binary.specs.Reading.{AreWithin, IsOperatorWithin}
use Rattle.format_binary.specs.declared.trees.OpenOperator.{OpenOperator}

pub within_parts : (os : List OpenOperator) (o : OpenOperator) → AreWithin (os ++ (o ∷ [])) → AreWithin os × IsOperatorWithin o
within_parts [] o h = (tt, h.0)
within_parts (x ∷ os) o h = let rest = within_parts os o h.1 in ((h.0, rest.0), rest.1)

pub within_last : (os : List OpenOperator) (o : OpenOperator) → AreWithin os → IsOperatorWithin o → AreWithin (os ++ (o ∷ []))
within_last [] o h k = (k, tt)
within_last (x ∷ os) o h k = (h.0, within_last os o h.1 k)
