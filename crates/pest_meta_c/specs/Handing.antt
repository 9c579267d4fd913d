-- The result of a call for its caller: a status, bytes in a buffer, and a length.
use Rattle.std.specs.Prelude.{◌≡◌, ◌<◌, ◌≤◌, ◌⊎◌, ◌++◌, ℕ, List, Result, Ok, Err, drop, length, string_bytes}
use Rattle.std.specs.declared.string.String.{String}
use Rattle.std.specs.declared.alloc.Global.{Global}
use Rattle.std.specs.declared.vec.Vec.{Vec}
use Rattle.pest_meta_c.specs.declared.outcome.CallError as why
use Rattle.pest_meta_c.specs.declared.outcome.CallError.TheVariants as why_is
use Rattle.pest_meta_c.specs.declared.outcome.NumbersError.{NumbersError}
use Rattle.pest_meta_c.specs.declared.outcome.NumbersError.TheVariants as no_numbers

-- such bytes are written at the start of the buffer, the bytes after them stay, and `needed` is their length
pub record Writes (P : List ℕ → Type 0) (old new : List ℕ) (needed : ℕ) : Type 0 where
  pub bytes : List ℕ
  pub hold : P bytes
  pub told : needed ≡ length bytes
  pub fit : needed ≤ length old
  pub written : new ≡ bytes ++ drop needed old

-- nothing is written, since the buffer is too small for such bytes, and `needed` is their length
pub record LacksRoom (P : List ℕ → Type 0) (old new : List ℕ) (needed : ℕ) : Type 0 where
  pub bytes : List ℕ
  pub hold : P bytes
  pub told : needed ≡ length bytes
  pub more : length old < needed
  pub unchanged : new ≡ old

-- nothing is written, and `needed` is 0
pub record WritesNothing (old new : List ℕ) (needed : ℕ) : Type 0 where
  pub told : needed ≡ 0
  pub unchanged : new ≡ old

-- the result of a call that answers or refuses with such bytes, by its status: 0 for an answer, 1 for a
-- refusal, 2 for an allocation failure, 3 for an input that is not UTF-8, 4 for a buffer that is too small
pub record HandsOver (Answer Refusal : List ℕ → Type 0) (old new : List ℕ) (needed status : ℕ) : Type 0 where
  pub known : status ≤ 4
  pub answered : status ≡ 0 → Writes Answer old new needed
  pub refused : status ≡ 1 → Writes Refusal old new needed
  pub memory : status ≡ 2 → WritesNothing old new needed
  pub no_text : status ≡ 3 → WritesNothing old new needed
  pub no_room : status ≡ 4 → LacksRoom (λ bytes. Answer bytes ⊎ Refusal bytes) old new needed

-- the result of a call that answers with such numbers, or for a refusal with none; the same statuses
pub record HandsOverNumbers (Answer : List ℕ → Type 0) (Refusal : Type 0) (old new : List ℕ)
    (needed status : ℕ) : Type 0 where
  pub known : status ≤ 4
  pub answered : status ≡ 0 → Writes Answer old new needed
  pub refused : status ≡ 1 → Refusal × WritesNothing old new needed
  pub memory : status ≡ 2 → WritesNothing old new needed
  pub no_text : status ≡ 3 → WritesNothing old new needed
  pub no_room : status ≡ 4 → LacksRoom Answer old new needed

-- items with that status are put into the buffer if they fit, and `needed` is their count
pub record IsPut {A : Type 0} (wanted : ℕ) (items old new : List A) (needed status : ℕ) : Type 0 where
  pub told : needed ≡ length items
  pub put : length items ≤ length old → (status ≡ wanted) × (new ≡ items ++ drop (length items) old)
  pub no_room : length old < length items → (status ≡ 4) × (new ≡ old)

-- the result of an outcome: status 0 for an answer, 1 for a refusal, 2 for an allocation failure
abbrev pub IsHandedOver : Result (String Global) why.CallError → List ℕ → List ℕ → ℕ → ℕ → Type 0
IsHandedOver (Ok json) old new needed status = IsPut 0 (string_bytes json) old new needed status
IsHandedOver (Err (why_is.Refused json)) old new needed status =
    IsPut 1 (string_bytes json) old new needed status
IsHandedOver (Err why_is.Memory) old new needed status = (status ≡ 2) × WritesNothing old new needed

-- nothing is written, with that status
abbrev pub IsNothing : ℕ → List ℕ → List ℕ → ℕ → ℕ → Type 0
IsNothing wanted old new needed status = (status ≡ wanted) × WritesNothing old new needed

-- the result of an outcome in binary form, by the same statuses
abbrev pub AreBytesHandedOver : Result (Vec ℕ Global) why.CallError → List ℕ → List ℕ → ℕ → ℕ → Type 0
AreBytesHandedOver (Ok bytes) old new needed status = IsPut 0 bytes.items old new needed status
AreBytesHandedOver (Err (why_is.Refused json)) old new needed status =
    IsPut 1 (string_bytes json) old new needed status
AreBytesHandedOver (Err why_is.Memory) old new needed status = IsNothing 2 old new needed status

-- the result of numbers: status 0, or nothing with 1 for a refusal and 2 for an allocation failure
abbrev pub AreNumbersHandedOver : Result (Vec ℕ Global) NumbersError → List ℕ → List ℕ → ℕ → ℕ → Type 0
AreNumbersHandedOver (Ok numbers) old new needed status = IsPut 0 numbers.items old new needed status
AreNumbersHandedOver (Err no_numbers.Refused) old new needed status = IsNothing 1 old new needed status
AreNumbersHandedOver (Err no_numbers.Memory) old new needed status = IsNothing 2 old new needed status
