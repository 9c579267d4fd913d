-- Operations that note failures without names.
use Rattle.std.proofs.Common.{◌≡◌, refl, ap, ◌∙◌, ℕ, zero, suc, Bool, true, false, ◌&&◌, ◌||◌, List, [], ◌∷◌, get_or}
use Rattle.std.specs.List.{list_any}
use Rattle.std.specs.Prelude.{not}
use Rattle.std.proofs.Math.Bool.{and-false}
use Rattle.matcher_code.specs.Lists.{CodeLists}
use Rattle.matcher_code.specs.declared.code.Op.{Op}
use Rattle.matcher_code.specs.declared.code.Op.TheVariants as op
use Rattle.matcher_code.specs.Laid.{GoesTo}
use Rattle.matcher_compiler.specs.Exact.{IsAllowed, is_exact, is_note}

or_true : (b : Bool) → (b || true) ≡ true
or_true true = refl
or_true false = refl

has_note : (ops : List Op) (l n : ℕ) → get_or ops l op.Lose ≡ op.Note n → list_any is_note ops ≡ true
has_note [] l n e = cc
has_note (o ∷ ops) zero n e = ap (λ x. is_note x || list_any is_note ops) e
has_note (o ∷ ops) (suc l) n e = ap (λ b. is_note o || b) (has_note ops l n e) ∙ or_true (is_note o)

-- where a failure is noted, the code is not exact
pub if_noted : (code : CodeLists) (noted : Bool) (l n : ℕ) → GoesTo code noted l n → IsAllowed code noted
if_noted code false l n e = and-false (is_exact code)
if_noted code true l n e = ap (λ b. not b && true) (has_note code.ops l n e)
