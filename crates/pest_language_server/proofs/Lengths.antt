-- The length that a line says.
use Rattle.std.proofs.Common.{◌≡◌, ◌<◌, ◌≤◌, ◌+◌, ◌∙◌, ℕ, List, IsUtf8, MatchOption, Some, None, Result, Ok, Err, ap, arith, codes, drop, length, subst, sym, ◌^◌}
use Rattle.std.specs.Str.{trim}
use Rattle.std.specs.Str.Parse.{IsNumeral, ParsesUnsigned, digits_value, without_leading_plus}
use Rattle.std.specs.Str.Pattern.{RFindsText, SplitsAroundMatch}
use Rattle.std.specs.Result.{result_ok}
use Rattle.pest_language_server.specs.Frames.{SaysLength, SaysNone}

-- the last place of a text is one
pub places_agree : (n s : List ℕ) (i j h k : ℕ) → RFindsText n s (Some (i, j)) → RFindsText n s (Some (h, k)) → i ≤ length s → h ≤ length s → i ≡ h
places_agree n s i j h k (later, here) (other, there) u v =
    let a : i < h → ⊥ = λ l. later h l v (drop k s) there.split in
    let b : h < i → ⊥ = λ l. other i l u (drop j s) here.split in
    omega (arith, a, b)

-- what is after it is too
pub rests_agree : (n s before after front back : List ℕ) → SplitsAroundMatch (RFindsText n) s before after → SplitsAroundMatch (RFindsText n) s front back → after ≡ back
rests_agree n s before after front back (i, j, p, a, b, c, d, e) (h, k, q, t, u, v, w, x) =
    let same : i ≡ h = places_agree n s i j h k p q (omega arith) (omega arith) in
    let ends : j ≡ k = p.1.ends ∙ ap (λ m. m + length n) same ∙ sym q.1.ends in
    b ∙ ap (λ m. drop m s) ends ∙ sym u

-- no place, no length
pub lacks_name : (line : List ℕ) → RFindsText (codes "Content-Length:") line None → SaysNone line
lacks_name line none said says =
    let (i, j, p, a, b, c, d, e) = says.split in
    let within : i ≤ length line = omega arith in
    none i within (drop j line) p.1.split

-- the number that is parsed is what the line says
pub parsed_says : {E : Type 0} (line before after : List ℕ) (r : Result ℕ E) → IsUtf8 line → SplitsAroundMatch (RFindsText (codes "Content-Length:")) line before after
    → ParsesUnsigned 64 10 (trim after) r → MatchOption (result_ok r) (SaysNone line) (SaysLength line)
parsed_says line before after (Ok n) u s p = record { text = u; before = before; after = after; split = s; numeral = p.0.0; fits = p.0.1; value = p.1 }
parsed_says line before after (Err e) u s p = λ said says.
    let same : says.after ≡ after = rests_agree (codes "Content-Length:") line says.before says.after before after says.split s in
    p (subst (λ t. IsNumeral 10 (without_leading_plus (trim t))) same says.numeral, subst (λ t. digits_value 10 (without_leading_plus (trim t)) < 2 ^ 64) same says.fits)
