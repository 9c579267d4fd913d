-- What goes over is handed over, by its status.
use Rattle.std.proofs.Common.{◌≡◌, ◌<◌, ◌≤◌, ◌⊎◌, ℕ, List, Result, Ok, Err, IfOk, IfErr, String, Global, length, string_bytes, inl, inr, refl, sym, ◌∙◌, arith}
use Rattle.std.proofs.lemmas.Bool.{cases_lt}
use Rattle.pest_meta_c.specs.Handing.{AreBytesHandedOver, AreNumbersHandedOver, HandsOver, HandsOverNumbers, IsHandedOver, IsPut}
use Rattle.pest_meta_c.specs.Outcomes.{RefusesNumbers, RefusesWith}
use Rattle.pest_meta_c.specs.declared.outcome.CallError as why
use Rattle.pest_meta_c.specs.declared.outcome.CallError.TheVariants as why_is
use Rattle.pest_meta_c.specs.declared.outcome.NumbersError.{NumbersError}
use Rattle.pest_meta_c.specs.declared.outcome.NumbersError.TheVariants as no_numbers
use Rattle.std.specs.declared.vec.Vec.{Vec}

-- bytes that are an answer, with status 0, or a refusal, with status 1
hands_put : (Answer Refusal : List ℕ → Type 0) (wanted : ℕ) (bytes old new : List ℕ) (needed status : ℕ) → wanted ≤ 1 → (wanted ≡ 0 → Answer bytes) → (wanted ≡ 1 → Refusal bytes) → (Answer bytes ⊎ Refusal bytes)
    → IsPut wanted bytes old new needed status → HandsOver Answer Refusal old new needed status
hands_put Answer Refusal wanted bytes old new needed status most a r one p = go (cases_lt (length old) (length bytes))
  where
    go : (length old < length bytes) ⊎ (length bytes ≤ length old) → HandsOver Answer Refusal old new needed status
    go (inl less) = let q = p.no_room less in let four : status ≡ 4 = q.0 in record {
      known = omega arith;
      answered = λ e. absurd (omega arith);
      refused = λ e. absurd (omega arith);
      memory = λ e. absurd (omega arith);
      no_text = λ e. absurd (omega arith);
      no_room = λ e. record { bytes = bytes; hold = one; told = p.told; more = rw p.told less; unchanged = q.1 };
    }
    go (inr fit) = let q = p.put fit in let same : status ≡ wanted = q.0 in record {
      known = omega arith;
      answered = λ e. record { bytes = bytes; hold = a (sym same ∙ e); told = p.told; fit = rw p.told fit; written = rw p.told q.1 };
      refused = λ e. record { bytes = bytes; hold = r (sym same ∙ e); told = p.told; fit = rw p.told fit; written = rw p.told q.1 };
      memory = λ e. absurd (omega arith);
      no_text = λ e. absurd (omega arith);
      no_room = λ e. absurd (omega arith);
    }

zero_or_one : ◌≡◌ {A = ℕ} 0 1 → ⊥
zero_or_one e = omega arith

one_or_zero : ◌≡◌ {A = ℕ} 1 0 → ⊥
one_or_zero e = omega arith

-- an outcome
pub hands : (Answer Refusal : List ℕ → Type 0) (outcome : Result (String Global) why.CallError) (old new : List ℕ) (needed status : ℕ) → IfOk outcome (λ json. Answer (string_bytes json)) → IfErr outcome (RefusesWith Refusal)
    → IsHandedOver outcome old new needed status → HandsOver Answer Refusal old new needed status
hands Answer Refusal (Ok json) old new needed status a r g =
    hands_put Answer Refusal 0 (string_bytes json) old new needed status (omega arith) (λ e. a) (λ e. absurd (zero_or_one e)) (inl a) g
hands Answer Refusal (Err (why_is.Refused json)) old new needed status a r g =
    hands_put Answer Refusal 1 (string_bytes json) old new needed status (omega arith) (λ e. absurd (one_or_zero e)) (λ e. r) (inr r) g
hands Answer Refusal (Err why_is.Memory) old new needed status a r g = let two : status ≡ 2 = g.0 in record {
  known = omega arith;
  answered = λ e. absurd (omega arith);
  refused = λ e. absurd (omega arith);
  memory = λ e. g.1;
  no_text = λ e. absurd (omega arith);
  no_room = λ e. absurd (omega arith);
}

-- what is not UTF-8 goes over as nothing
pub hands_no_text : (Answer Refusal : List ℕ → Type 0) (old : List ℕ) (needed status : ℕ) → status ≡ 3 → needed ≡ 0 → HandsOver Answer Refusal old old needed status
hands_no_text Answer Refusal old needed status three none = record {
  known = omega arith;
  answered = λ e. absurd (omega arith);
  refused = λ e. absurd (omega arith);
  memory = λ e. absurd (omega arith);
  no_text = λ e. record { told = none; unchanged = refl };
  no_room = λ e. absurd (omega arith);
}

put_is_text : (wanted : ℕ) (bytes old new : List ℕ) (needed status : ℕ) → wanted ≤ 1 → IsPut wanted bytes old new needed status → status ≡ 3 → ⊥
put_is_text wanted bytes old new needed status most p e = go (cases_lt (length old) (length bytes))
  where
    go : (length old < length bytes) ⊎ (length bytes ≤ length old) → ⊥
    go (inl less) = let four : status ≡ 4 = (p.no_room less).0 in omega arith
    go (inr fit) = let same : status ≡ wanted = (p.put fit).0 in omega arith

-- an outcome goes over with another status than that of what is not UTF-8
pub is_text : (outcome : Result (String Global) why.CallError) (old new : List ℕ) (needed status : ℕ) → IsHandedOver outcome old new needed status → status ≡ 3 → ⊥
is_text (Ok json) old new needed status g e = put_is_text 0 (string_bytes json) old new needed status (omega arith) g e
is_text (Err (why_is.Refused json)) old new needed status g e = put_is_text 1 (string_bytes json) old new needed status (omega arith) g e
is_text (Err why_is.Memory) old new needed status g e = let two : status ≡ 2 = g.0 in omega arith

-- an outcome in binary form
pub hands_bytes : (Answer Refusal : List ℕ → Type 0) (outcome : Result (Vec ℕ Global) why.CallError) (old new : List ℕ) (needed status : ℕ) → IfOk outcome (λ bytes. Answer bytes.items) → IfErr outcome (RefusesWith Refusal)
    → AreBytesHandedOver outcome old new needed status → HandsOver Answer Refusal old new needed status
hands_bytes Answer Refusal (Ok bytes) old new needed status a r g =
    hands_put Answer Refusal 0 bytes.items old new needed status (omega arith) (λ e. a) (λ e. absurd (zero_or_one e)) (inl a) g
hands_bytes Answer Refusal (Err (why_is.Refused json)) old new needed status a r g =
    hands_put Answer Refusal 1 (string_bytes json) old new needed status (omega arith) (λ e. absurd (one_or_zero e)) (λ e. r) (inr r) g
hands_bytes Answer Refusal (Err why_is.Memory) old new needed status a r g = let two : status ≡ 2 = g.0 in record {
  known = omega arith;
  answered = λ e. absurd (omega arith);
  refused = λ e. absurd (omega arith);
  memory = λ e. g.1;
  no_text = λ e. absurd (omega arith);
  no_room = λ e. absurd (omega arith);
}

-- numbers
pub hands_numbers : (Answer : List ℕ → Type 0) (Refusal : Type 0) (outcome : Result (Vec ℕ Global) NumbersError) (old new : List ℕ) (needed status : ℕ) → IfOk outcome (λ numbers. Answer numbers.items) → IfErr outcome (RefusesNumbers Refusal)
    → AreNumbersHandedOver outcome old new needed status → HandsOverNumbers Answer Refusal old new needed status
hands_numbers Answer Refusal (Ok numbers) old new needed status a r g = go (cases_lt (length old) (length numbers.items))
  where
    go : (length old < length numbers.items) ⊎ (length numbers.items ≤ length old) → HandsOverNumbers Answer Refusal old new needed status
    go (inl less) = let q = g.no_room less in let four : status ≡ 4 = q.0 in record {
      known = omega arith;
      answered = λ e. absurd (omega arith);
      refused = λ e. absurd (omega arith);
      memory = λ e. absurd (omega arith);
      no_text = λ e. absurd (omega arith);
      no_room = λ e. record { bytes = numbers.items; hold = a; told = g.told; more = rw g.told less; unchanged = q.1 };
    }
    go (inr fit) = let q = g.put fit in let zero_is : status ≡ 0 = q.0 in record {
      known = omega arith;
      answered = λ e. record { bytes = numbers.items; hold = a; told = g.told; fit = rw g.told fit; written = rw g.told q.1 };
      refused = λ e. absurd (omega arith);
      memory = λ e. absurd (omega arith);
      no_text = λ e. absurd (omega arith);
      no_room = λ e. absurd (omega arith);
    }
hands_numbers Answer Refusal (Err no_numbers.Refused) old new needed status a r g = let one : status ≡ 1 = g.0 in record {
  known = omega arith;
  answered = λ e. absurd (omega arith);
  refused = λ e. (r, g.1);
  memory = λ e. absurd (omega arith);
  no_text = λ e. absurd (omega arith);
  no_room = λ e. absurd (omega arith);
}
hands_numbers Answer Refusal (Err no_numbers.Memory) old new needed status a r g = let two : status ≡ 2 = g.0 in record {
  known = omega arith;
  answered = λ e. absurd (omega arith);
  refused = λ e. absurd (omega arith);
  memory = λ e. g.1;
  no_text = λ e. absurd (omega arith);
  no_room = λ e. absurd (omega arith);
}
