-- Where the last line of a text begins.
use Rattle.std.proofs.Common.{◌≡◌, ◌≢◌, ℕ, ◌+◌, ◌-◌, ◌<◌, not, List, length, get_or, drop, ap, ◌∙◌, arith}
use Rattle.std.proofs.lemmas.List.Sums.{suffix_len_is}
use Rattle.std.proofs.lemmas.Bool.Decides.{nat_tests}
use Rattle.base_language.specs.Pieces.LineColumn.{is_line_feed, last_line}

-- behind the last line feed, which stands at i
pub last_line_behind : (text : List ℕ) (i : ℕ) → i < length text → get_or text i 0 ≡ 10 → ((k : ℕ) → i < k → k < length text → get_or text k 0 ≢ 10) → last_line text ≡ drop (i + 1) text
last_line_behind text i inside here later =
    let e = suffix_len_is (λ b. not (is_line_feed b)) text (i + 1) 0 (omega arith) (λ k low high. grind (arith, nat_tests, later k (omega arith) high)) (λ _. grind (arith, nat_tests)) in
    let n : length text - (length text - (i + 1)) ≡ i + 1 = omega arith in
    ap (λ n. drop (length text - n) text) e ∙ ap (λ n. drop n text) n

-- there is no line feed
pub last_line_whole : (text : List ℕ) → ((k : ℕ) → k < length text → get_or text k 0 ≢ 10) → last_line text ≡ text
last_line_whole text none =
    let e = suffix_len_is (λ b. not (is_line_feed b)) text 0 0 (omega arith) (λ k low high. grind (arith, nat_tests, none k high)) (λ h. absurd (omega arith)) in
    let n : length text - (length text - 0) ≡ 0 = omega arith in
    ap (λ n. drop (length text - n) text) e ∙ ap (λ n. drop n text) n
