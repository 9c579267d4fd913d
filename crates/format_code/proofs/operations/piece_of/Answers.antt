use Rattle.std.proofs.Common.{◌≡◌, ◌∙◌, ◌<◌, ◌^◌, ℕ, List, [], ◌∷◌, ◌++◌, ap, ap₂, arith, get_or, length, refl}
use Rattle.std.specs.Int.{to_le_bytes, w32}
use Rattle.matcher_code.specs.Words.{words_in}
use Rattle.format_code.proofs.Parts.{word_first}
use Rattle.format_code.proofs.operations.piece_of.Goals as goal

abbrev le : ℕ → List ℕ
le w = to_le_bytes w32 w

five : (a b c d e : ℕ) → a < 2 ^ 32 → b < 2 ^ 32 → c < 2 ^ 32 → d < 2 ^ 32 → e < 2 ^ 32
    → words_in (le a ++ (le b ++ (le c ++ (le d ++ (le e ++ []))))) ≡ a ∷ b ∷ c ∷ d ∷ e ∷ []
five a b c d e p q r s t =
    let last : words_in (le e ++ []) ≡ e ∷ [] = word_first e [] t in
    let two : words_in (le d ++ (le e ++ [])) ≡ d ∷ e ∷ [] = word_first d (le e ++ []) s ∙ ap (λ xs. d ∷ xs) last in
    let three : words_in (le c ++ (le d ++ (le e ++ []))) ≡ c ∷ d ∷ e ∷ [] =
    word_first c (le d ++ (le e ++ [])) r ∙ ap (λ xs. c ∷ xs) two in
    let four : words_in (le b ++ (le c ++ (le d ++ (le e ++ [])))) ≡ b ∷ c ∷ d ∷ e ∷ [] =
    word_first b (le c ++ (le d ++ (le e ++ []))) q ∙ ap (λ xs. b ∷ xs) three in
    word_first a (le b ++ (le c ++ (le d ++ (le e ++ [])))) p ∙ ap (λ xs. a ∷ xs) four

five_of : (ws : List ℕ) → length ws ≡ 5
    → get_or ws 0 0 ∷ get_or ws 1 0 ∷ get_or ws 2 0 ∷ get_or ws 3 0 ∷ get_or ws 4 0 ∷ [] ≡ ws
five_of [] h = absurd (omega (arith, h))
five_of (a ∷ []) h = absurd (omega (arith, h))
five_of (a ∷ b ∷ []) h = absurd (omega (arith, h))
five_of (a ∷ b ∷ c ∷ []) h = absurd (omega (arith, h))
five_of (a ∷ b ∷ c ∷ d ∷ []) h = absurd (omega (arith, h))
five_of (a ∷ b ∷ c ∷ d ∷ e ∷ []) h = refl
five_of (a ∷ b ∷ c ∷ d ∷ e ∷ f ∷ ws) h = absurd (omega (arith, h))

pub returns-clause-words : goal.returns-clause-words
returns-clause-words c =
    let told = c.well_formed in
    let long : length c.args.words ≡ 5 = grind (arith, told) in
    let w = λ (k : ℕ). get_or c.args.words k 0 in
    let all = ap₂ (λ x xs. x ++ xs) c.word_bytes.ensures.bytes (ap₂ (λ x xs. x ++ xs) c.word_bytes-2.ensures.bytes
    (ap₂ (λ x xs. x ++ xs) c.word_bytes-3.ensures.bytes (ap₂ (λ x xs. x ++ xs) c.word_bytes-4.ensures.bytes
    (ap (λ x. x ++ []) c.word_bytes-5.ensures.bytes)))) in
    ap words_in all ∙ (five (w 0) (w 1) (w 2) (w 3) (w 4) c.word_bytes.ensures.fits c.word_bytes-2.ensures.fits
    c.word_bytes-3.ensures.fits c.word_bytes-4.ensures.fits c.word_bytes-5.ensures.fits ∙ five_of c.args.words long)

pub returns-clause-size : goal.returns-clause-size
returns-clause-size c =
    let all = ap₂ (λ x xs. x ++ xs) c.word_bytes.ensures.bytes (ap₂ (λ x xs. x ++ xs) c.word_bytes-2.ensures.bytes
    (ap₂ (λ x xs. x ++ xs) c.word_bytes-3.ensures.bytes (ap₂ (λ x xs. x ++ xs) c.word_bytes-4.ensures.bytes
    (ap (λ x. x ++ []) c.word_bytes-5.ensures.bytes)))) in
    ap length all
