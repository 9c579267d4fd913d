-- What reads take of an input.
use Rattle.std.proofs.Common.{◌≡◌, ◌≢◌, ◌∙◌, ◌++◌, ◌∷◌, [], ◌<◌, ◌≤◌, ◌+◌, ◌-◌, All, ℕ, List, Option, Some, None, MatchOption, ap, append-nil, append_assoc, arith, get_or, inl, inr, length, length-append, refl, subst, sym, take}
use Rattle.std.proofs.KnownBytes.{Consumes-trans}
use Rattle.std.proofs.lemmas.List.{take-append-le}
use borrow.Rule.Slice.PartMut.{post_of, put_mid}
use Rattle.std.specs.List.{concat}
use Rattle.std.specs.Option.{option_or}
use Rattle.std.specs.Io.KnownBytes.{Consumes, Keeps}
use Rattle.std.proofs.lemmas.List.Elements.{All-nil, All-push}
use Rattle.std.proofs.lemmas.List.Folds.{concat-append}
use Rattle.pest_language_server.specs.Frames.{IsLine, IsPart, LosesAll, SaysLast, SaysLength, SaysNone}

-- a read after failed ones
pub kept_then : (a b c : Option (List ℕ)) (bs : List ℕ) → Keeps a b → Consumes b c bs → Consumes a c bs
kept_then None b c bs p q = tt
kept_then (Some x) None c bs p q = absurd p
kept_then (Some x) (Some y) None bs p q = absurd q
kept_then (Some x) (Some y) (Some z) bs p q = sym p ∙ q

-- what was read into a buffer of one byte
pub one_byte : (bs : List ℕ) (n : ℕ) → length bs ≡ 1 → n ≢ 0 → n ≤ length bs → take n bs ≡ get_or bs 0 0 ∷ []
one_byte [] n e h k = absurd (omega arith)
one_byte (x ∷ []) n e h k = let one : n ≡ 1 = omega arith in rw one refl
one_byte (x ∷ y ∷ zs) n e h k = absurd (omega arith)

pub concat-push : (lines : List (List ℕ)) (line : List ℕ) → concat (lines ++ line ∷ []) ≡ concat lines ++ line
concat-push lines line = concat-append lines (line ∷ []) ∙ ap (λ l. concat lines ++ l) (append-nil line)

-- one more line, that says no length
pub says_more : (lines : List (List ℕ)) (line : List ℕ) (said : Option ℕ) → SaysLast lines said → SaysNone line → SaysLast (lines ++ line ∷ []) said
says_more lines line None h none = All-push SaysNone lines line h none
says_more lines line (Some n) (before, l, after, e, s, all) none =
    (before, l, after ++ line ∷ [], ap (λ ls. ls ++ line ∷ []) e ∙ append_assoc before (l ∷ after) (line ∷ []), s, All-push SaysNone after line all none)

-- one more line
pub says_next : (lines : List (List ℕ)) (line : List ℕ) (said found : Option ℕ) → SaysLast lines said → MatchOption found (SaysNone line) (SaysLength line)
    → SaysLast (lines ++ line ∷ []) (option_or found said)
says_next lines line said None h none = says_more lines line said h none
says_next lines line said (Some n) h says = (lines, line, [], refl, says, All-nil SaysNone)

-- what is taken of a part of a buffer
pub take_front : (k n : ℕ) (xs ys : List ℕ) → n ≤ length ys → take n (put_mid 0 k xs ys) ≡ take n ys
take_front k n xs ys l = take-append-le n ys (post_of 0 k xs) l

-- more bytes than a given number
pub takes_more : (a b c : Option (List ℕ)) (bytes more : List ℕ) (rest taken count : ℕ) → (length bytes + rest ≡ count) → Consumes a b bytes → Consumes b c more → length more ≡ taken → taken ≤ rest
    → (length (bytes ++ more) + (rest - taken) ≡ count) × Consumes a c (bytes ++ more)
takes_more a b c bytes more rest taken count e h k n l =
    (rw length-append (omega arith), Consumes-trans a b c bytes more h k)

-- bytes of a line, and what is read next
module _ (old mid new : Option (List ℕ)) (bytes : List ℕ) (all : All (λ byte. byte ≢ 10) bytes) (taken : Consumes old mid bytes) where
  pub line_is_cut : length bytes < 1024 → LosesAll mid new [] → (part : List ℕ) × IsPart part × LosesAll old new part
  line_is_cut l (c, end) = (bytes, (all, l), (subst (Consumes old new) (append-nil bytes) (Consumes-trans old mid new bytes [] taken c), end))

  pub line_ends : (byte : ℕ) (line : List ℕ) → length bytes < 1024 → line ≡ bytes ++ byte ∷ [] → byte ≡ 10 → Consumes mid new (byte ∷ []) → IsLine line × Consumes old new line
  line_ends byte line l e n c =
      ((bytes, all, inl (l, e ∙ ap (λ b. bytes ++ b ∷ []) n)), subst (Consumes old new) (sym e) (Consumes-trans old mid new bytes (byte ∷ []) taken c))

  pub line_goes : (byte : ℕ) (line : List ℕ) → length bytes < 1024 → line ≡ bytes ++ byte ∷ [] → byte ≢ 10 → Consumes mid new (byte ∷ []) → All (λ b. b ≢ 10) line × (length line ≤ 1024) × Consumes old new line
  line_goes byte line l e n c = (
    subst (All (λ b. b ≢ 10)) (sym e) (All-push (λ b. b ≢ 10) bytes byte all n),
    rw (e, length-append) (omega arith),
    subst (Consumes old new) (sym e) (Consumes-trans old mid new bytes (byte ∷ []) taken c),
  )

-- a line that is full
pub line_is_full : (old new : Option (List ℕ)) (bytes : List ℕ) → All (λ byte. byte ≢ 10) bytes → length bytes ≤ 1024 → 1024 ≤ length bytes → Consumes old new bytes → IsLine bytes × Consumes old new bytes
line_is_full old new bytes all l m c = ((bytes, all, inr (omega arith, refl)), c)
