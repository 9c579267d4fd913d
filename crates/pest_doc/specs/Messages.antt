-- The message that a grammar has no rule of a name.
use Rattle.std.specs.Prelude.{◌≡◌, ◌⊎◌, ℕ, List, ◌++◌, Contains, None, Option, Some, codes, map}
use Rattle.std.specs.Borrow.{Bor}
use Rattle.program_support.specs.Escapes.{escaped_bytes}

-- that a file has no rule of a name, before what follows
abbrev pub absence : List ℕ → List ℕ → List ℕ → List ℕ
absence file rule rest = escaped_bytes file ++ (codes " has no rule " ++ (escaped_bytes rule ++ rest))

-- that message alone, or with one of some names
abbrev pub IsNamedAbsence : List ℕ → List ℕ → List (Bor (List ℕ)) → List ℕ → Type 0
IsNamedAbsence file rule names message = (message ≡ absence file rule (codes "\n"))
    ⊎ ((near : List ℕ) × Contains (map (λ name. name.now) names) near
    × (message ≡ absence file rule (codes "; there is " ++ (near ++ codes "\n"))))

-- that message of a name, and else that a file has no rules
abbrev pub IsAbsence : List ℕ → Option (Bor (List ℕ)) → List (Bor (List ℕ)) → List ℕ → Type 0
IsAbsence file None names message = message ≡ escaped_bytes file ++ codes " has no rules\n"
IsAbsence file (Some rule) names message = IsNamedAbsence file rule.now names message
