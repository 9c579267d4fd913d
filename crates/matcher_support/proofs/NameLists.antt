-- How a list of names is written.
use Rattle.std.proofs.Common.{◌≡◌, sym, ◌∙◌, ap, ℕ, ◌+◌, ◌<◌, ◌==◌, suc, List, ◌++◌, Bool, arith, append_assoc, drop, get_or, length}
use Rattle.std.specs.Prelude.{chars, encode_utf8_all}
use Rattle.std.specs.Borrow.{Bor}
use Rattle.std.proofs.Math.Seq.{drop-cons}
use Rattle.std.proofs.lemmas.List.{length-drop, length-map}
use Rattle.matcher_program.specs.ExpectedNames.{name_texts}
use Rattle.matcher_support.specs.Expectations.{name_separator, other_names}

module _ (of_two : Bool) (names : List (Bor (List ℕ))) (i : ℕ) (d : Bor (List ℕ)) (within : i < length names) where
  -- the names from one on
  next_name : other_names of_two (name_texts (drop i names)) ≡ (name_separator of_two (length (drop (suc i) names) == 0) ++ encode_utf8_all (chars (get_or names i d).now)) ++ other_names of_two (name_texts (drop (suc i) names))
  next_name =
      ap (λ xs. other_names of_two (name_texts xs)) (drop-cons names i d within)
      ∙ ap (λ n. (name_separator of_two (n == 0) ++ encode_utf8_all (chars (get_or names i d).now)) ++ other_names of_two (name_texts (drop (suc i) names))) (length-map (drop (suc i) names) (λ n. chars n.now))

  -- one more name was written
  pub one_more : (following : ℕ) (old new before : List ℕ) → following + suc i ≡ length names → before ≡ name_separator of_two (following == 0) → new ≡ (old ++ before) ++ encode_utf8_all (chars (get_or names i d).now) → new ++ other_names of_two (name_texts (drop (suc i) names)) ≡ old ++ other_names of_two (name_texts (drop i names))
  one_more following old new before counted b e =
      let name = encode_utf8_all (chars (get_or names i d).now) in
      let rest = other_names of_two (name_texts (drop (suc i) names)) in
      let l : length (drop (suc i) names) ≡ following = let z = length-drop (suc i) names in omega (arith, z, counted) in
      let f : (before ++ name) ++ rest ≡ other_names of_two (name_texts (drop i names)) = ap (λ t. (t ++ name) ++ rest) (b ∙ ap (λ n. name_separator of_two (n == 0)) (sym l)) ∙ sym next_name in
      ap (λ m. m ++ rest) (e ∙ append_assoc old before name) ∙ (append_assoc old (before ++ name) rest ∙ ap (λ t. old ++ t) f)
