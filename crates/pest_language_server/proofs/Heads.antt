-- Heads and frames, by what reads take of an input.
use Rattle.std.proofs.Common.{◌≡◌, ◌++◌, ◌∷◌, [], ◌<◌, ◌+◌, ℕ, List, Option, Some, None, MatchOption, Result, Ok, Err, IfOk, append-nil, arith, false, inl, inr, length, length-append, refl, subst, sym, true}
use Rattle.std.proofs.KnownBytes.{Consumes-trans}
use Rattle.std.proofs.lemmas.List.Elements.{All-push}
use Rattle.std.specs.List.{concat}
use Rattle.std.specs.Option.{option_or}
use Rattle.std.specs.Io.KnownBytes.{Consumes, IsAtEnd}
use Rattle.pest_language_server.specs.Frames.{AreLines, IsBodyRead, IsFrameRead, IsHead, IsHeadRead, IsLine, IsLineRead, IsRestRead, IsSkipped, SaysLast, SaysLength, SaysNone, head_of, is_empty_line}
use Rattle.pest_language_server.specs.declared.frames.Head.TheVariants as head
use Rattle.pest_language_server.specs.declared.frames.InputFrame.{InputFrame}
use Rattle.pest_language_server.specs.declared.frames.InputFrame.TheVariants as frame
use Rattle.pest_language_server.proofs.Reading.{concat-push, says_next}

by_case : {A E : Type 0} (r : Result A E) (P Q : A → Type 0) → ((a : A) → P a → Q a) → IfOk r P → IfOk r Q
by_case (Ok a) P Q f h = f a h
by_case (Err e) P Q f h = tt

module _ (old mid new : Option (List ℕ)) (lines : List (List ℕ)) (are : AreLines lines) (taken : Consumes old mid (concat lines)) where
  -- the empty line
  pub head_ends : (line : List ℕ) (said : Option ℕ) → SaysLast lines said → is_empty_line line ≡ true → Consumes mid new line → IsHeadRead old new (head_of said)
  head_ends line None says e c =
      (concat lines ++ line, inl (record { lines = lines; end = line; are_lines = are; is_end = e; says = says; whole = refl }), Consumes-trans old mid new (concat lines) line taken c)
  head_ends line (Some n) says e c =
      (concat lines ++ line, record { lines = lines; end = line; are_lines = are; is_end = e; says = says; whole = refl }, Consumes-trans old mid new (concat lines) line taken c)

  -- the end of the input
  pub head_is_cut : length lines < 64 → IsLineRead mid new None → IsHeadRead old new head.End
  head_is_cut few (part, is, (c, end)) =
      (concat lines ++ part, record { lines = lines; part = part; are_lines = are; few = few; is_part = is; whole = refl }, (Consumes-trans old mid new (concat lines) part taken c, end))

  -- one more line
  pub head_goes : (line : List ℕ) (said found : Option ℕ) (count : ℕ) → length lines ≡ count → SaysLast lines said → IsLine line → is_empty_line line ≡ false → Consumes mid new line
      → MatchOption found (SaysNone line) (SaysLength line)
      → (more : List (List ℕ)) × (length more ≡ count + 1) × AreLines more × SaysLast more (option_or found said) × Consumes old new (concat more)
  head_goes line said found count n says is e c says_found = (
    lines ++ line ∷ [],
    rw length-append (omega arith),
    All-push (λ l. IsLine l × (is_empty_line l ≡ false)) lines line are (is, e),
    says_next lines line said found says says_found,
    subst (Consumes old new) (sym (concat-push lines line)) (Consumes-trans old mid new (concat lines) line taken c),
  )

-- too many lines
pub head_is_long : (old new : Option (List ℕ)) (lines : List (List ℕ)) → AreLines lines → length lines ≡ 64 → Consumes old new (concat lines) → IsHeadRead old new head.Invalid
head_is_long old new lines are n c = (concat lines, inr (inl (record { lines = lines; are_lines = are; many = n; whole = refl })), c)

-- too long a body
pub body_is_long : (old new : Option (List ℕ)) (said : ℕ) → IsHeadRead old new (head.Length said) → 67108864 < said → IsFrameRead old new frame.Invalid
body_is_long old new said (bytes, h, c) l = (bytes, inr (inr (said, h, l)), c)

-- no frame
pub frame_is_cut : (old new : Option (List ℕ)) → IsHeadRead old new head.End → IsFrameRead old new frame.End
frame_is_cut old new (bytes, cut, loses) = (bytes, inl cut, loses)

-- a body after a head
pub frame_read : (old mid new : Option (List ℕ)) (said : ℕ) (f : InputFrame) → IsHeadRead old mid (head.Length said) → IsBodyRead mid new said f → IsFrameRead old new f
frame_read old mid new said (frame.Body body) (bytes, h, c) (n, d) =
    (bytes, subst (λ k. IsHead bytes (Some k)) (sym n) h, Consumes-trans old mid new bytes body.items c d)
frame_read old mid new said frame.Invalid h b = absurd b
frame_read old mid new said frame.TooLarge (bytes, h, c) (body, n, d) =
    (body, (bytes, subst (λ k. IsHead bytes (Some k)) (sym n) h, Consumes-trans old mid new bytes body c d))
frame_read old mid new said frame.End (bytes, h, c) (part, l, (d, end)) =
    (bytes ++ part, inr (bytes, part, said, h, l, refl), (Consumes-trans old mid new bytes part c d, end))

-- the input ends in a body
pub body_is_cut : (old mid new : Option (List ℕ)) (bytes : List ℕ) (rest said : ℕ) → length bytes + rest ≡ said → 0 < rest → Consumes old mid bytes → Consumes mid new [] → IsAtEnd new
    → IsRestRead old new said false
body_is_cut old mid new bytes rest said n l c d end =
    (bytes, omega arith, (subst (Consumes old new) (append-nil bytes) (Consumes-trans old mid new bytes [] c d), end))

-- the rest of a body is read away
pub body_is_skipped : (old mid new : Option (List ℕ)) (bytes : List ℕ) (rest said : ℕ) (f : InputFrame) → length bytes + rest ≡ said → Consumes old mid bytes → IsSkipped mid new rest f
    → IsBodyRead old new said f
body_is_skipped old mid new bytes rest said (frame.Body body) n c s = absurd s
body_is_skipped old mid new bytes rest said frame.Invalid n c s = absurd s
body_is_skipped old mid new bytes rest said frame.TooLarge n c (more, k, d) =
    (bytes ++ more, rw length-append (omega arith), Consumes-trans old mid new bytes more c d)
body_is_skipped old mid new bytes rest said frame.End n c (more, k, (d, end)) =
    (bytes ++ more, rw length-append (omega arith), (Consumes-trans old mid new bytes more c d, end))

-- the same of what a read gives, if it does not fail
module _ {E : Type 0} (r : Result InputFrame E) where
  pub frame_read_if : (old mid new : Option (List ℕ)) (said : ℕ) → IsHeadRead old mid (head.Length said) → IfOk r (IsBodyRead mid new said) → IfOk r (IsFrameRead old new)
  frame_read_if old mid new said h b = by_case r (IsBodyRead mid new said) (IsFrameRead old new) (λ f. frame_read old mid new said f h) b

  pub body_is_skipped_if : (old mid new : Option (List ℕ)) (bytes : List ℕ) (rest said : ℕ) → length bytes + rest ≡ said → Consumes old mid bytes → IfOk r (IsSkipped mid new rest)
      → IfOk r (IsBodyRead old new said)
  body_is_skipped_if old mid new bytes rest said n c s = by_case r (IsSkipped mid new rest) (IsBodyRead old new said) (λ f. body_is_skipped old mid new bytes rest said f n c) s
