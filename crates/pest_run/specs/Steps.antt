-- The limits of the steps of a match, and of a search for names.
use Rattle.std.specs.Prelude.{ℕ, Bool, false, true, ◌+◌, ◌*◌, ◌-◌, ◌^◌, ◌<◌, List, Option, Some, None, SomeIff, min}
use Rattle.std.specs.Str.Parse.{IsNumeral, digits_value, without_leading_plus}
use Rattle.pest_run.specs.declared.arguments.Limits.{Limits}

-- the number that a text writes in digits, if it writes one of 64 bits
abbrev pub CountsSteps : List ℕ → Option ℕ → Type 0
CountsSteps text steps = let digits = without_leading_plus text in
    SomeIff steps (IsNumeral 10 digits × (digits_value 10 digits < 2 ^ 64)) (digits_value 10 digits)

-- the given limit, or 2^28 steps, and 4,096 more for each byte, but no more than a match without a limit has
abbrev pub step_limit : Option ℕ → ℕ → ℕ
step_limit (Some steps) length = steps
step_limit None length = min (4096 * (length + 65536)) (2 ^ 62 - 1)

-- the limit of a match: the given one, or that of a rule that uses the stack, or none
abbrev pub match_limit : Option ℕ → Bool → ℕ → Option ℕ
match_limit (Some steps) uses_stack length = Some steps
match_limit None true length = Some (step_limit None length)
match_limit None false length = None

-- the given limit, or 2^23 steps, and 32 more for each byte
abbrev pub name_limit : Option ℕ → ℕ → ℕ
name_limit (Some steps) length = steps
name_limit None length = min (32 * (length + 262144)) (2 ^ 64 - 1)

-- both limits
abbrev pub limits_of : Option ℕ → ℕ → Limits
limits_of steps length = record { steps = step_limit steps length; names = name_limit steps length }
