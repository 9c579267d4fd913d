-- Code that records the name of each failure that counts.
use Rattle.std.specs.Prelude.{◌≡◌, Bool, true, false, ◌&&◌, not}
use Rattle.std.specs.List.{list_any}
use Rattle.matcher_code.specs.Lists.{CodeLists}
use Rattle.matcher_code.specs.declared.code.Op.{Op}
use Rattle.matcher_code.specs.declared.code.Op.TheVariants as op

-- whether an operation records a failure without a name
abbrev pub is_note : Op → Bool
is_note (op.Note next) = true
is_note _ = false

-- whether no operation of the code does
abbrev pub is_exact : CodeLists → Bool
is_exact code = not (list_any is_note code.ops)

-- a test in the code may note a failure without a name, or does not
abbrev pub IsAllowed : CodeLists → Bool → Type 0
IsAllowed code noted = (is_exact code && noted) ≡ false
