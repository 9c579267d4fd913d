-- What closes comments, place by place.
use Rattle.std.proofs.Common.{◌≡◌, ◌<◌, ◌≤◌, ◌-◌, ◌+◌, refl, sym, ◌∙◌, ap, ap₂, ℕ, zero, suc, List, [], ◌∷◌, Bool, true, false, ◌==◌, nat_eq, drop, drop-drop, length, length-append, arith, if◌then◌else◌}
use Rattle.std.proofs.lemmas.List.{length-drop}
use Rattle.base_language.specs.Language.Matching.{begins}
use Rattle.base_language.proofs.Beginnings.{begins-gives}
use Rattle.matcher_code.specs.Comments.{closings, others_or}

pub begins_nothing : (t : List ℕ) → 0 < length t → begins nat_eq t [] ≡ false
begins_nothing [] h = absurd (omega (arith, h))
begins_nothing (c ∷ t) h = refl

pub begins_within : (t cs : List ℕ) → begins nat_eq t cs ≡ true → length t ≤ length cs
begins_within t cs h = let r = begins-gives t cs h in let e = ap length r.1 in omega (arith, e, length-append t r.0)

pub not_zero : (n : ℕ) → 0 < n → (n == 0) ≡ false
not_zero n h = grind arith

same_head : {r s : List ℕ} {rs ss : List (List ℕ)} → r ∷ rs ≡ s ∷ ss → r ≡ s
same_head h = cc

same_tail : {r s : List ℕ} {rs ss : List (List ℕ)} → r ∷ rs ≡ s ∷ ss → rs ≡ ss
same_tail h = cc

module _ (opening closing : List ℕ) where
  -- what closes comments around here
  abbrev pub around : List ℕ → List (List ℕ)
  around cs = closings opening closing 0 cs

  -- what closes comments around the one that begins here; none if none does
  abbrev pub inner : List ℕ → List (List ℕ)
  inner cs = if begins nat_eq opening cs then around (drop (length opening) cs) else []

  -- what does if none begins here that is closed
  abbrev pub plain : List ℕ → List (List ℕ)
  plain cs = if begins nat_eq closing cs then drop (length closing) cs ∷ around (drop (length closing) cs) else around (drop 1 cs)

  -- a place within a comment: one begins that is closed; the comment is closed; or neither
  pub data Place (cs : List ℕ) : Type 0 where
    nested : (r : List ℕ) (rs : List (List ℕ)) → begins nat_eq opening cs ≡ true → around (drop (length opening) cs) ≡ r ∷ rs → around cs ≡ rs → Place cs
    closed : inner cs ≡ [] → begins nat_eq closing cs ≡ true → around cs ≡ drop (length closing) cs ∷ around (drop (length closing) cs) → Place cs
    neither : inner cs ≡ [] → begins nat_eq closing cs ≡ false → around cs ≡ around (drop 1 cs) → Place cs

  -- the first text that closes a comment, and the others
  pub record IsFirst (cs r : List ℕ) (rs : List (List ℕ)) : Type 0 where
    pub taken : ℕ
    pub some : 0 < taken
    pub within : taken ≤ length cs
    pub is : r ≡ drop taken cs
    pub others : rs ≡ around r

  pub further : (k : ℕ) (cs : List ℕ) → closings opening closing k cs ≡ around (drop k cs)
  further zero cs = refl
  further (suc k) [] = refl
  further (suc k) (c ∷ cs) = further k cs

  behind : (c : ℕ) (cs t : List ℕ) → 0 < length t → closings opening closing (length t - 1) cs ≡ around (drop (length t) (c ∷ cs))
  behind c cs [] h = absurd (omega (arith, h))
  behind c cs (x ∷ t) h =
      let e : length (x ∷ t) - 1 ≡ length t = omega arith in
      ap (λ k. closings opening closing k cs) e ∙ further (length t) cs

  module _ (has_opening : 0 < length opening) (has_closing : 0 < length closing) where
    pub here : (cs : List ℕ) → around cs ≡ others_or (inner cs) (plain cs)
    here [] = rw (begins_nothing opening has_opening, begins_nothing closing has_closing) refl
    here (c ∷ cs) =
        ap₂ (λ i p. others_or (if begins nat_eq opening (c ∷ cs) then i else []) (if begins nat_eq closing (c ∷ cs) then drop (length closing) (c ∷ cs) ∷ p else around cs))
        (behind c cs opening has_opening) (behind c cs closing has_closing)

    pub here_nested : (cs r : List ℕ) (rs : List (List ℕ)) → begins nat_eq opening cs ≡ true → around (drop (length opening) cs) ≡ r ∷ rs → around cs ≡ rs
    here_nested cs r rs e f = here cs ∙ (ap (λ x. others_or (if x then around (drop (length opening) cs) else []) (plain cs)) e ∙ ap (λ i. others_or i (plain cs)) f)

    here_plain : (cs : List ℕ) (b : Bool) → inner cs ≡ [] → begins nat_eq closing cs ≡ b
        → around cs ≡ (if b then drop (length closing) cs ∷ around (drop (length closing) cs) else around (drop 1 cs))
    here_plain cs b e h = here cs ∙ (ap (λ i. others_or i (plain cs)) e ∙ ap (λ x. if x then drop (length closing) cs ∷ around (drop (length closing) cs) else around (drop 1 cs)) h)

    pub here_closed : (cs : List ℕ) → inner cs ≡ [] → begins nat_eq closing cs ≡ true → around cs ≡ drop (length closing) cs ∷ around (drop (length closing) cs)
    here_closed cs = here_plain cs true

    pub here_neither : (cs : List ℕ) → inner cs ≡ [] → begins nat_eq closing cs ≡ false → around cs ≡ around (drop 1 cs)
    here_neither cs = here_plain cs false

    pub place : (cs : List ℕ) → Place cs
    place cs = go (begins nat_eq opening cs) refl (around (drop (length opening) cs)) refl
      where
        not_nested : inner cs ≡ [] → (b : Bool) → begins nat_eq closing cs ≡ b → Place cs
        not_nested e true h = closed e h (here_closed cs e h)
        not_nested e false h = neither e h (here_neither cs e h)

        go : (a : Bool) → begins nat_eq opening cs ≡ a → (rs : List (List ℕ)) → around (drop (length opening) cs) ≡ rs → Place cs
        go true e (r ∷ rs) f = nested r rs e f (here_nested cs r rs e f)
        go true e [] f = not_nested (ap (λ x. if x then around (drop (length opening) cs) else []) e ∙ f) (begins nat_eq closing cs) refl
        go false e rs f = not_nested (ap (λ x. if x then around (drop (length opening) cs) else []) e) (begins nat_eq closing cs) refl

    pub first : (n : ℕ) (cs : List ℕ) → length cs ≤ n → (r : List ℕ) (rs : List (List ℕ)) → around cs ≡ r ∷ rs → IsFirst cs r rs
    first n [] h r rs e = cc
    first zero (c ∷ cs) h r rs e = absurd (omega (arith, h))
    first (suc n) (c ∷ cs) h r rs e = go (λ ds l q qs f. first n ds l q qs f) (place (c ∷ cs))
      where
        go : ((ds : List ℕ) → length ds ≤ n → (q : List ℕ) (qs : List (List ℕ)) → around ds ≡ q ∷ qs → IsFirst ds q qs) → Place (c ∷ cs) → IsFirst (c ∷ cs) r rs
        go ih (nested q qs a f g) =
            let l = length-drop (length opening) (c ∷ cs) in
            let k = begins_within opening (c ∷ cs) a in
            let x = ih (drop (length opening) (c ∷ cs)) (omega (arith, h, l, has_opening)) q qs f in
            let m : length q ≡ length (drop (length opening) (c ∷ cs)) - x.taken = ap length x.is ∙ length-drop x.taken (drop (length opening) (c ∷ cs)) in
            let y = ih q (omega (arith, h, l, m, has_opening)) r rs (sym x.others ∙ (sym g ∙ e)) in
            record {
              taken = (length opening + x.taken) + y.taken;
              some = omega (arith, has_opening);
              within = omega (arith, l, m, k, x.within, y.within);
              is = y.is ∙ (ap (drop y.taken) (x.is ∙ drop-drop x.taken (length opening) (c ∷ cs)) ∙ drop-drop y.taken (length opening + x.taken) (c ∷ cs));
              others = y.others;
            }
        go ih (closed a b g) =
            let z = sym e ∙ g in
            record {
              taken = length closing;
              some = has_closing;
              within = begins_within closing (c ∷ cs) b;
              is = same_head z;
              others = same_tail z ∙ sym (ap around (same_head z));
            }
        go ih (neither a b g) =
            let x = ih cs (omega (arith, h)) r rs (sym g ∙ e) in
            record { taken = suc x.taken; some = omega arith; within = omega (arith, x.within); is = x.is; others = x.others }

    -- no more texts close comments than there are places
    pub few : (n : ℕ) (cs : List ℕ) → length cs ≤ n → length (around cs) ≤ length cs
    few n [] h = omega arith
    few zero (c ∷ cs) h = absurd (omega (arith, h))
    few (suc n) (c ∷ cs) h = go (λ ds l. few n ds l) (place (c ∷ cs))
      where
        go : ((ds : List ℕ) → length ds ≤ n → length (around ds) ≤ length ds) → Place (c ∷ cs) → length (around (c ∷ cs)) ≤ length (c ∷ cs)
        go ih (nested q qs a f g) =
            let l = length-drop (length opening) (c ∷ cs) in
            let x = ih (drop (length opening) (c ∷ cs)) (omega (arith, h, l, has_opening)) in
            omega (arith, x, l, ap length f, ap length g)
        go ih (closed a b g) =
            let l = length-drop (length closing) (c ∷ cs) in
            let k = begins_within closing (c ∷ cs) b in
            let x = ih (drop (length closing) (c ∷ cs)) (omega (arith, h, l, has_closing)) in
            omega (arith, x, l, k, has_closing, ap length g)
        go ih (neither a b g) = let x = ih cs (omega (arith, h)) in omega (arith, x, ap length g)
