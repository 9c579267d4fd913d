-- Ends of lexemes, byte by byte.
use Rattle.std.proofs.Common.{◌≡◌, ◌<◌, ◌≤◌, ◌+◌, ◌-◌, ◌==◌, ◌&&◌, ◌∙◌, ◌∷◌, [], ℕ, List, Bool, true, false, Option, Some, None, add-one, ap, arith, cond, drop, drop-cons, drop_of_length-le, get_or, length, option_map, refl, suc, take_while}
use Rattle.std.proofs.lemmas.List.Sums.{take_while-cons}
use Rattle.server_symbols.specs.Lexemes.{block_len, character_len, inner_after, is_block_end, is_closing_quote, is_escape, is_line_end, last_after, run_end, string_len}

-- what is left of a text, byte by byte
pub here : (text : List ℕ) (i : ℕ) → i < length text → drop i text ≡ get_or text i 0 ∷ drop (i + 1) text
here text i l = rw add-one (drop-cons text i 0 l)

pub over : (text : List ℕ) (i : ℕ) → length text ≤ i → drop i text ≡ []
over text i l = drop_of_length-le text l

module _ (p : ℕ → Bool) (text : List ℕ) (i : ℕ) where
  taken : i < length text → take_while p (drop i text) ≡ cond (p (get_or text i 0)) (get_or text i 0 ∷ take_while p (drop (i + 1) text)) []
  taken l = ap (take_while p) (here text i l) ∙ take_while-cons p (get_or text i 0) (drop (i + 1) text)

  pub run_goes : i < length text → p (get_or text i 0) ≡ true → run_end p text i ≡ run_end p text (i + 1)
  run_goes l e =
      let more : take_while p (drop i text) ≡ get_or text i 0 ∷ take_while p (drop (i + 1) text) =
      taken l ∙ ap (λ b. cond b (get_or text i 0 ∷ take_while p (drop (i + 1) text)) []) e in
      let one : length (take_while p (drop i text)) ≡ suc (length (take_while p (drop (i + 1) text))) = ap length more in
      omega arith

  pub run_stops : i < length text → p (get_or text i 0) ≡ false → run_end p text i ≡ i
  run_stops l e =
      let none : take_while p (drop i text) ≡ [] =
      taken l ∙ ap (λ b. cond b (get_or text i 0 ∷ take_while p (drop (i + 1) text)) []) e in
      let zero : length (take_while p (drop i text)) ≡ 0 = ap length none in
      omega arith

  pub run_over : length text ≤ i → run_end p text i ≡ i
  run_over l =
      let zero : length (take_while p (drop i text)) ≡ 0 = ap (λ bytes. length (take_while p bytes)) (over text i l) in
      omega arith

-- strings
pub string_stops : (e : Bool) (text : List ℕ) (i : ℕ) → i < length text → is_line_end (get_or text i 0) ≡ true → string_len e (drop i text) ≡ 0
string_stops e text i l h = ap (string_len e) (here text i l) ∙ rw h refl

pub string_closes : (e : Bool) (text : List ℕ) (i : ℕ) → i < length text → is_line_end (get_or text i 0) ≡ false → is_closing_quote e (get_or text i 0) ≡ true
    → string_len e (drop i text) ≡ 1
string_closes e text i l h k = ap (string_len e) (here text i l) ∙ rw (h, k) refl

pub string_goes : (e f : Bool) (text : List ℕ) (i : ℕ) → i < length text → is_line_end (get_or text i 0) ≡ false → is_closing_quote e (get_or text i 0) ≡ false → f ≡ is_escape e (get_or text i 0)
    → string_len e (drop i text) ≡ 1 + string_len f (drop (i + 1) text)
string_goes e f text i l h k q = ap (string_len e) (here text i l) ∙ rw (h, k, q) refl

pub string_over : (e : Bool) (text : List ℕ) (i : ℕ) → length text ≤ i → string_len e (drop i text) ≡ 0
string_over e text i l = ap (string_len e) (over text i l)

-- characters
pub character_stops : (n : ℕ) (text : List ℕ) (i : ℕ) → i < length text → is_line_end (get_or text i 0) ≡ true → character_len n (drop i text) ≡ None
character_stops n text i l h = ap (character_len n) (here text i l) ∙ rw h refl

pub character_closes : (n : ℕ) (text : List ℕ) (i : ℕ) → i < length text → is_line_end (get_or text i 0) ≡ false → (get_or text i 0 == 39 && n == 0) ≡ true
    → character_len n (drop i text) ≡ Some 1
character_closes n text i l h k = ap (character_len n) (here text i l) ∙ rw (h, k) refl

pub character_goes : (n m : ℕ) (text : List ℕ) (i : ℕ) → i < length text → is_line_end (get_or text i 0) ≡ false → (get_or text i 0 == 39 && n == 0) ≡ false → m ≡ n - 1
    → character_len n (drop i text) ≡ option_map (λ k. 1 + k) (character_len m (drop (i + 1) text))
character_goes n m text i l h k q = ap (character_len n) (here text i l) ∙ rw (h, k, q) refl

pub character_over : (n : ℕ) (text : List ℕ) (i : ℕ) → length text ≤ i → character_len n (drop i text) ≡ None
character_over n text i l = ap (character_len n) (over text i l)

-- one byte further
pub further : (i : ℕ) (r : Option ℕ) → option_map (λ n. i + n) (option_map (λ k. 1 + k) r) ≡ option_map (λ n. (i + 1) + n) r
further i None = refl
further i (Some k) = ap Some (omega arith)

-- block comments
pub block_closes : (n last : ℕ) (text : List ℕ) (i : ℕ) → i < length text → (is_block_end last (get_or text i 0) && n == 0) ≡ true → block_len n last (drop i text) ≡ 1
block_closes n last text i l h = ap (block_len n last) (here text i l) ∙ rw h refl

pub block_goes : (n m last next : ℕ) (text : List ℕ) (i : ℕ) → i < length text → (is_block_end last (get_or text i 0) && n == 0) ≡ false → m ≡ inner_after n last (get_or text i 0)
    → next ≡ last_after last (get_or text i 0) → block_len n last (drop i text) ≡ 1 + block_len m next (drop (i + 1) text)
block_goes n m last next text i l h q r = ap (block_len n last) (here text i l) ∙ rw (h, q, r) refl

pub block_over : (n last : ℕ) (text : List ℕ) (i : ℕ) → length text ≤ i → block_len n last (drop i text) ≡ 0
block_over n last text i l = ap (block_len n last) (over text i l)
