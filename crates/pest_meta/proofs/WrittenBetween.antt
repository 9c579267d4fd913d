-- What is written between two places.
use Rattle.std.proofs.Common.{◌≡◌, sym, ap, ◌∙◌, ℕ, ◌+◌, ◌-◌, List, ◌++◌, true, arith}
use lib.Utf8.{scalars}
use Rattle.std.specs.Str.{chars, IsUtf8}
use Rattle.std.specs.List.{slice_range}
use Rattle.std.specs.Char.{len_utf8}
use Rattle.std.proofs.Math.Utf8.{encodes}
use Rattle.std.proofs.lemmas.List.Sums.{sum_by-append}
use Rattle.std.proofs.lemmas.Str.{encodes-append, chars-encodes, scalars-chars}
use Rattle.front_grammar.proofs.Numerals.{middle}
use Rattle.base_language.specs.Language.Text.{Text, size_of}
use Rattle.base_language.proofs.InBytes.{sizes, split_bytes}
use Rattle.base_language.proofs.Beginnings.{scalars_parts}
use Rattle.front_reader.specs.Reading.{characters_between}
use Rattle.pest_meta.proofs.Parts.{IsLeftAt}

module _ (text : List ℕ) (utf8 : IsUtf8 text) where
  module _ (p q : ℕ) (w K : Text) (from : IsLeftAt text p (w ++ K)) (to : IsLeftAt text q K) where
    ends : q ≡ p + size_of w
    ends =
        let e : size_of (from.front ++ (w ++ K)) ≡ size_of (to.front ++ K) = ap size_of (sym from.split ∙ to.split) in
        omega (arith, e, sum_by-append len_utf8 from.front (w ++ K), sum_by-append len_utf8 w K, sum_by-append len_utf8 to.front K, from.size, to.size)

    pub slice_is : slice_range text p q ≡ encodes w
    slice_is =
        let front = from.front in
        let bytes : text ≡ encodes front ++ (encodes w ++ encodes K) = split_bytes text utf8 front (w ++ K) from.split ∙ ap (λ l. encodes front ++ l) (encodes-append w K) in
        middle (encodes front) (encodes w) (encodes K) text p q bytes (from.size ∙ sizes front) (ends ∙ ap (λ n. p + n) (sizes w))

    scalars_word : scalars w ≡ true
    scalars_word = (scalars_parts w K (scalars_parts from.front (w ++ K) (ap scalars (sym from.split) ∙ scalars-chars text utf8)).1).0

    pub written_is : characters_between text p q ≡ w
    written_is = ap chars slice_is ∙ chars-encodes w scalars_word
