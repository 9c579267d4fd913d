-- Positions within comments, as a count of open comments and a pass from the end of the text back find them.
use Rattle.std.proofs.Common.{◌≡◌, ◌<◌, ◌≤◌, ◌-◌, ◌+◌, refl, sym, ◌∙◌, ap, ℕ, zero, suc, List, [], ◌∷◌, Bool, true, false, Some, None, nat_eq, add-one, drop, drop-drop, get_or, length, arith, if◌then◌else◌}
use Rattle.std.proofs.lemmas.List.{length-drop}
use Rattle.base_language.specs.Language.Matching.{begins}
use Rattle.matcher_code.specs.Comments.{closings, comment_len, taken_to}
use Rattle.matcher_code.specs.Within.{IsAround, IsEnd, no_closings}
use Rattle.matcher_code.specs.declared.comments.Closings.{Closings}
use Rattle.matcher_code.proofs.Closings.{around, further as behind_opening, here_closed, here_neither, here_nested, inner}

-- a text that was tested
pub found : (b : Bool) (n size : ℕ) → Some size ≡ (if b then Some n else None) → (b ≡ true) × (size ≡ n)
found true n size h = (refl, cc)
found false n size h = cc

pub missed : (b : Bool) (n : ℕ) → (if b then Some n else None) ≡ None → b ≡ false
missed true n h = cc
missed false n h = refl

module _ (opening closing text : List ℕ) where
  -- what closes comments around a position
  abbrev there : ℕ → List (List ℕ)
  there p = closings opening closing 0 (drop p text)

  -- the first position is within those comments that are around a later one, but for a given number
  abbrev pub IsPassed : ℕ → ℕ → ℕ → Type 0
  IsPassed from depth at = depth < length (there at) → there from ≡ drop depth (there at)

  further : (at k size : ℕ) → size ≡ k → around opening closing (drop k (drop at text)) ≡ there (at + size)
  further at k size e = ap (around opening closing) (drop-drop k at text ∙ ap (λ n. drop (at + n) text) (sym e))

  pub not_begun : (at : ℕ) → begins nat_eq opening (drop at text) ≡ false → inner opening closing (drop at text) ≡ []
  not_begun at b = ap (λ x. if x then around opening closing (drop (length opening) (drop at text)) else []) b

  module _ (has_opening : 0 < length opening) (has_closing : 0 < length closing) where
    pub opened : (from depth at size : ℕ) → size ≡ length opening → begins nat_eq opening (drop at text) ≡ true → IsPassed from depth at → IsPassed from (depth + 1) (at + size)
    opened from depth at size e b x h = go (there (at + size)) refl
      where
        go : (rs : List (List ℕ)) → there (at + size) ≡ rs → there from ≡ drop (depth + 1) (there (at + size))
        go [] f = absurd (omega (arith, h, ap length f))
        go (r ∷ rs) f =
            let g = here_nested opening closing has_opening has_closing (drop at text) r rs b (further at (length opening) size e ∙ f) in
            x (omega (arith, h, ap length f, ap length g)) ∙ (ap (drop depth) g ∙ sym (ap (drop (depth + 1)) f ∙ ap (λ n. drop n (r ∷ rs)) (add-one depth)))

    -- a comment is closed here
    shut : (at size : ℕ) → size ≡ length closing → inner opening closing (drop at text) ≡ [] → begins nat_eq closing (drop at text) ≡ true
        → there at ≡ drop (at + size) text ∷ there (at + size)
    shut at size e a b =
        here_closed opening closing has_opening has_closing (drop at text) a b
        ∙ (ap (λ r. r ∷ around opening closing (drop (length closing) (drop at text))) (drop-drop (length closing) at text ∙ ap (λ n. drop (at + n) text) (sym e))
        ∙ ap (λ rs. drop (at + size) text ∷ rs) (further at (length closing) size e))

    pub closed : (from depth at size : ℕ) → 0 < depth → size ≡ length closing → begins nat_eq opening (drop at text) ≡ false → begins nat_eq closing (drop at text) ≡ true
        → IsPassed from depth at → IsPassed from (depth - 1) (at + size)
    closed from zero at size d e a b x h = absurd (omega (arith, d))
    closed from (suc depth) at size d e a b x h =
        let g = shut at size e (not_begun at a) b in
        let k : suc depth - 1 ≡ depth = omega arith in
        x (omega (arith, h, k, ap length g)) ∙ (ap (drop (suc depth)) g ∙ ap (λ n. drop n (there (at + size))) (sym k))

    pub ended : (from depth at size : ℕ) → depth ≡ 0 → size ≡ length closing → begins nat_eq opening (drop at text) ≡ false → begins nat_eq closing (drop at text) ≡ true
        → IsPassed from depth at → there from ≡ drop (at + size) text ∷ there (at + size)
    ended from zero at size d e a b x = let g = shut at size e (not_begun at a) b in x (omega (arith, ap length g)) ∙ g
    ended from (suc depth) at size d e a b x = absurd (omega (arith, d))

    passed_on : (at : ℕ) → inner opening closing (drop at text) ≡ [] → begins nat_eq closing (drop at text) ≡ false → there at ≡ there (at + 1)
    passed_on at a b = here_neither opening closing has_opening has_closing (drop at text) a b ∙ ap (around opening closing) (drop-drop 1 at text)

    pub passed : (from depth at : ℕ) → begins nat_eq opening (drop at text) ≡ false → begins nat_eq closing (drop at text) ≡ false
        → IsPassed from depth at → IsPassed from depth (at + 1)
    passed from depth at a b x h =
        let g = passed_on at (not_begun at a) b in
        x (omega (arith, h, ap length g)) ∙ ap (drop depth) g

    -- the pass back: behind the text that opens a comment
    pub around_nested : (number at size : ℕ) (k : Closings) → size ≡ length opening → begins nat_eq opening (drop at text) ≡ true → 0 < k.count
        → IsAround opening closing text number (at + size) k → IsAround opening closing text number at (record { count = k.count - 1; end = k.end })
    around_nested number at size k e b some x = go (there (at + size)) refl
      where
        go : (rs : List (List ℕ)) → there (at + size) ≡ rs → IsAround opening closing text number at (record { count = k.count - 1; end = k.end })
        go [] f = absurd (omega (arith, some, x.all, ap length f))
        go (r ∷ rs) f =
            let g = here_nested opening closing has_opening has_closing (drop at text) r rs b (further at (length opening) size e ∙ f) in
            record {
              all = omega (arith, x.all, ap length f, ap length g);
              behind = λ h i. omega (arith, x.behind h (omega (arith, i)));
              within = λ h i. x.within h (omega (arith, i));
              ends = λ h i.
                  let n : k.count - number ≡ suc ((k.count - 1) - number) = omega (arith, i, h) in
                  ap (λ ts. get_or ts ((k.count - 1) - number) []) g
                  ∙ (sym (ap (λ j. get_or (r ∷ rs) j []) n) ∙ (sym (ap (λ ts. get_or ts (k.count - number) []) f) ∙ x.ends h (omega (arith, i))));
            }

    -- behind a text that closes one, of the number or of another
    pub around_last : (number at size : ℕ) (k : Closings) → size ≡ length closing → inner opening closing (drop at text) ≡ [] → begins nat_eq closing (drop at text) ≡ true
        → at + size ≤ length text → k.count + 1 ≡ number → IsAround opening closing text number (at + size) k
        → IsAround opening closing text number at (record { count = k.count + 1; end = at + size })
    around_last number at size k e a b w last x =
        let g = shut at size e a b in
        record {
          all = omega (arith, x.all, ap length g);
          behind = λ h i. omega arith;
          within = λ h i. w;
          ends = λ h i.
              let n : (k.count + 1) - number ≡ 0 = omega (arith, last) in
              ap (λ ts. get_or ts ((k.count + 1) - number) []) g ∙ ap (λ j. get_or (drop (at + size) text ∷ there (at + size)) j []) n;
        }

    pub around_other : (number at size : ℕ) (k : Closings) → size ≡ length closing → inner opening closing (drop at text) ≡ [] → begins nat_eq closing (drop at text) ≡ true
        → (k.count + 1 ≡ number → ⊥) → IsAround opening closing text number (at + size) k
        → IsAround opening closing text number at (record { count = k.count + 1; end = k.end })
    around_other number at size k e a b other x =
        let g = shut at size e a b in
        record {
          all = omega (arith, x.all, ap length g);
          behind = λ h i. omega (arith, x.behind h (omega (arith, i, other)));
          within = λ h i. x.within h (omega (arith, i, other));
          ends = λ h i.
              let less : number ≤ k.count = omega (arith, i, other) in
              let n : (k.count + 1) - number ≡ suc (k.count - number) = omega (arith, less) in
              ap (λ ts. get_or ts ((k.count + 1) - number) []) g
              ∙ (ap (λ j. get_or (drop (at + size) text ∷ there (at + size)) j []) n ∙ x.ends h less);
        }

    pub around_neither : (number at : ℕ) (k : Closings) → inner opening closing (drop at text) ≡ [] → begins nat_eq closing (drop at text) ≡ false
        → IsAround opening closing text number (at + 1) k → IsAround opening closing text number at k
    around_neither number at k a b x =
        let g = passed_on at a b in
        record {
          all = x.all ∙ sym (ap length g);
          behind = λ h i. omega (arith, x.behind h i);
          within = x.within;
          ends = λ h i. ap (λ ts. get_or ts (k.count - number) []) g ∙ x.ends h i;
        }

  -- none of the comments that are closed behind a text that opens one has its own end there
  pub left_open : (at size : ℕ) (k : Closings) {number : ℕ} → size ≡ length opening → k.count ≡ 0 → IsAround opening closing text number (at + size) k
      → inner opening closing (drop at text) ≡ []
  left_open at size k e z x = go (begins nat_eq opening (drop at text))
    where
      none : (rs : List (List ℕ)) → length rs ≡ 0 → rs ≡ []
      none [] h = refl
      none (r ∷ rs) h = absurd (omega (arith, h))

      go : (b : Bool) → (if b then around opening closing (drop (length opening) (drop at text)) else []) ≡ []
      go true = further at (length opening) size e ∙ none (there (at + size)) (omega (arith, x.all, z))
      go false = refl

  -- at the end of the text nothing closes comments
  pub around_end : (number at : ℕ) → length text ≤ at → IsAround opening closing text number at no_closings
  around_end number at h =
      let e : drop at text ≡ [] = nothing at text h in
      record {
        all = sym (ap (λ cs. length (closings opening closing 0 cs)) e);
        behind = λ i j. absurd (omega (arith, i, j));
        within = λ i j. absurd (omega (arith, i, j));
        ends = λ i j. absurd (omega (arith, i, j));
      }
    where
      nothing : (n : ℕ) (cs : List ℕ) → length cs ≤ n → drop n cs ≡ []
      nothing zero [] h = refl
      nothing zero (c ∷ cs) h = absurd (omega (arith, h))
      nothing (suc n) [] h = refl
      nothing (suc n) (c ∷ cs) h = nothing n cs (omega (arith, h))

  -- the first text that closes a comment has the greatest number
  pub first_end : (from : ℕ) (k : Closings) → 0 < k.count → IsAround opening closing text k.count from k → IsEnd opening closing text from k.end
  first_end from k some x = go (there from) refl
    where
      go : (rs : List (List ℕ)) → there from ≡ rs → IsEnd opening closing text from k.end
      go [] f = absurd (omega (arith, some, x.all, ap length f))
      go (r ∷ rs) f =
          let n : k.count - k.count ≡ 0 = omega arith in
          let e : r ≡ drop k.end text = sym (ap (λ ts. get_or ts (k.count - k.count) []) f ∙ ap (λ j. get_or (r ∷ rs) j []) n) ∙ x.ends some (omega arith) in
          record {
            behind = x.behind some (omega arith);
            within = x.within some (omega arith);
            others = rs;
            first = f ∙ ap (λ t. t ∷ rs) e;
          }

  none_left : (rs : List (List ℕ)) → length rs ≡ 0 → rs ≡ []
  none_left [] h = refl
  none_left (r ∷ rs) h = absurd (omega (arith, h))

  pub no_end : (from number : ℕ) (k : Closings) → k.count ≡ 0 → IsAround opening closing text number from k → there from ≡ []
  no_end from number k z x = none_left (there from) (omega (arith, x.all, z))

  -- the length of a comment that begins here, by where it ends
  pub len_closed : (at size end : ℕ) → size ≡ length opening → begins nat_eq opening (drop at text) ≡ true → IsEnd opening closing text (at + size) end
      → end - at ≡ comment_len opening closing (drop at text)
  len_closed at size end e b x =
      let cs = drop at text in
      let i = x.behind in
      let l : length cs - length (drop end text) ≡ end - at = omega (arith, length-drop at text, length-drop end text, i, x.within) in
      sym (ap (λ y. if y then taken_to cs (closings opening closing (length opening) cs) else 0) b
      ∙ (ap (taken_to cs) (behind_opening opening closing (length opening) cs ∙ (further at (length opening) size e ∙ x.first)) ∙ l))

  pub len_open : (at size : ℕ) → size ≡ length opening → begins nat_eq opening (drop at text) ≡ true → there (at + size) ≡ []
      → 0 ≡ comment_len opening closing (drop at text)
  len_open at size e b x =
      let cs = drop at text in
      sym (ap (λ y. if y then taken_to cs (closings opening closing (length opening) cs) else 0) b
      ∙ ap (taken_to cs) (behind_opening opening closing (length opening) cs ∙ (further at (length opening) size e ∙ x)))
