-- Postfix operators behind a node.
use Rattle.std.proofs.Common.{◌≡◌, refl, subst, nat_eq, arith, ℕ, ◌+◌, ◌<◌, ◌≤◌, ◌^◌, List, [], ◌∷◌, ◌++◌, true, false, codes}
use Rattle.std.specs.Str.{IsUtf8}
use Rattle.std.specs.Fmt.{decimal}
use Rattle.std.specs.Str.Parse.{IsNumeral, digits_value}
use Rattle.std.proofs.lemmas.Fmt.{decimal_is_IsNumeral}
use Rattle.base_language.specs.Language.Text.{Text}
use Rattle.base_language.specs.Language.Expression.{Expression, Opt, Rep, RepOnce, RepExact, RepMin, RepMax, RepMinMax, whitespace, comment}
use Rattle.base_language.specs.Language.State.{NonAtomicMode, None', Tree, Trees, Success, Failure}
use Rattle.base_language.specs.Language.Meaning.{Run}
use Rattle.base_language.specs.declared.grammar.Rule.TheVariants as is
use Rattle.front_spanned.specs.Spanned as spanned
use Rattle.front_spanned.specs.Spanned.{Unary}
use Rattle.front_grammar.specs.MetaGrammar.{rule, ◌or◌}
use Rattle.front_grammar.specs.Shape.{Lone}
use Rattle.front_reader.specs.Reading as reading
use Rattle.front_reader.specs.Reading.{Postfix, exact, min, max, min_max, number}
use Rattle.front_spanned.specs.Erasure.{round}
use Rattle.pest_meta.proofs.Numbers.{is_digit, number_at, number_is, count_flawless, number_flawless}
use Rattle.pest_meta.proofs.Characters.{sign_misses}
use Rattle.front_reader.specs.Flaws.{own_flaw}
use Rattle.pest_meta.proofs.Deriving.{at, Calls, Gives, is_solid, str, range, call, seq, seq_first, seq_second, left, right, rep_once, stays}
use Rattle.pest_meta.proofs.Parts.{IsNodeText, an_operator, IsLeftAt, IsFlawless, flawless_tree, flawless_none, still_left}
use Rattle.pest_meta.proofs.Assembly.{operator}

module _ (text : List ℕ) (utf8 : IsUtf8 text) where
  question : (K : Text) (p : ℕ) → Calls is.postfix_operator (at p (63 ∷ K)) (Success (at (p + 1) K) (Tree (codes "optional_operator") p (p + 1) None' None'))
  unfolding whitespace comment
  question K p = call is.postfix_operator refl (left (left (left (left (left (left (call is.optional_operator refl str)))))))

  star : (K : Text) (p : ℕ) → Calls is.postfix_operator (at p (42 ∷ K)) (Success (at (p + 1) K) (Tree (codes "repeat_operator") p (p + 1) None' None'))
  unfolding whitespace comment
  star K p = call is.postfix_operator refl (left (left (left (left (left (right
      (call is.optional_operator refl str) (call is.repeat_operator refl str)))))))

  plus : (K : Text) (p : ℕ) → Calls is.postfix_operator (at p (43 ∷ K)) (Success (at (p + 1) K) (Tree (codes "repeat_once_operator") p (p + 1) None' None'))
  unfolding whitespace comment
  plus K p = call is.postfix_operator refl (left (left (left (left (right
      (right (call is.optional_operator refl str) (call is.repeat_operator refl str))
      (call is.repeat_once_operator refl str))))))

  pub opt_text : (F : Text → Text) (e : Expression) → IsNodeText text F e → IsNodeText text (λ K. F (63 ∷ K)) (Opt e)
  unfolding own_flaw
  opt_text F e node p b K₀ K h f loop = node p b (63 ∷ K₀) K h (an_operator 63 K₀ refl) (λ q i.
      operator text q (q + 1) 63 K₀ K₀ K spanned.Opt e b refl (question K₀ q) reading.opt
      (flawless_tree text (λ vs. refl) (flawless_none text) (flawless_none text)) (loop (q + 1) (still_left text (question K₀ q) i)))

  pub rep_text : (F : Text → Text) (e : Expression) → IsNodeText text F e → IsNodeText text (λ K. F (42 ∷ K)) (Rep e)
  unfolding own_flaw
  rep_text F e node p b K₀ K h f loop = node p b (42 ∷ K₀) K h (an_operator 42 K₀ refl) (λ q i.
      operator text q (q + 1) 42 K₀ K₀ K spanned.Rep e b refl (star K₀ q) reading.rep
      (flawless_tree text (λ vs. refl) (flawless_none text) (flawless_none text)) (loop (q + 1) (still_left text (star K₀ q) i)))

  pub rep_once_text : (F : Text → Text) (e : Expression) → IsNodeText text F e → IsNodeText text (λ K. F (43 ∷ K)) (RepOnce e)
  unfolding own_flaw
  rep_once_text F e node p b K₀ K h f loop = node p b (43 ∷ K₀) K h (an_operator 43 K₀ refl) (λ q i.
      operator text q (q + 1) 43 K₀ K₀ K spanned.RepOnce e b refl (plus K₀ q) reading.rep_once
      (flawless_tree text (λ vs. refl) (flawless_none text) (flawless_none text)) (loop (q + 1) (still_left text (plus K₀ q) i)))

  -- an operator that counts
  record Counted (r : Text) (p : ℕ) (t u : Text) (f : Unary) : Type 0 where
    place : ℕ
    inner : Trees
    does : Calls is.postfix_operator (at p (123 ∷ t)) (Success (at place u) (Tree r p place inner None'))
    says : Postfix text r inner f
    flawless : IsFlawless text (Tree r p place inner None')

  counted_text : (r : Text) (F G : Text → Text) (e : Expression) (f : Unary) → ((p : ℕ) (K : Text) → IsLeftAt text p (123 ∷ G K) → Counted r p (G K) K f)
      → IsNodeText text F e → IsNodeText text (λ K. F (123 ∷ G K)) (round f e)
  counted_text r F G e f counted node p b K₀ K h g loop = node p b (123 ∷ G K₀) K h (an_operator 123 (G K₀) refl) (λ q i.
      let c = counted q K₀ i in
      operator text q c.place 123 (G K₀) K₀ K f e b refl c.does c.says c.flawless (loop c.place (still_left text c.does i)))

  no_sign : (t : Text) (p : ℕ) → Gives (Run NonAtomicMode (rule is.optional_operator or rule is.repeat_operator or rule is.repeat_once_operator)) (at p (123 ∷ t)) Failure
  unfolding whitespace comment
  no_sign t p = right (right (call is.optional_operator refl str) (call is.repeat_operator refl str)) (call is.repeat_once_operator refl str)

  brace : (t : Text) (p : ℕ) → Calls is.opening_brace (at p (123 ∷ t)) (Success (at (p + 1) t) (Tree (codes "opening_brace") p (p + 1) None' None'))
  unfolding whitespace comment
  brace t p = call is.opening_brace refl str

  unbrace : (t : Text) (p : ℕ) → Calls is.closing_brace (at p (125 ∷ t)) (Success (at (p + 1) t) (Tree (codes "closing_brace") p (p + 1) None' None'))
  unfolding whitespace comment
  unbrace t p = call is.closing_brace refl str

  a_comma : (t : Text) (p : ℕ) → Calls is.comma (at p (44 ∷ t)) (Success (at (p + 1) t) (Tree (codes "comma") p (p + 1) None' None'))
  unfolding whitespace comment
  a_comma t p = call is.comma refl str

  -- behind a brace
  here_inside : (t : Text) (p : ℕ) → IsLeftAt text p (123 ∷ t) → IsLeftAt text (p + 1) t
  here_inside t p h = still_left text (brace t p) h

  decimal_is : (n : ℕ) → n < 2 ^ 32 → IsNumeral 10 (decimal n) × (digits_value 10 (decimal n) ≡ n)
  decimal_is n h = decimal_is_IsNumeral n (omega (arith, h))

  exactly : (n : ℕ) → 1 ≤ n → n < 2 ^ 32 → (p : ℕ) (K : Text) → IsLeftAt text p (123 ∷ (decimal n ++ (125 ∷ K))) → Counted (codes "repeat_exact") p (decimal n ++ (125 ∷ K)) K (spanned.RepExact n)
  unfolding whitespace comment own_flaw
  exactly n low high p K h =
      let d = decimal_is n high in
      let t : Text = decimal n ++ (125 ∷ K) in
      let k = number_at (decimal n) 125 K d.0 refl (p + 1) in
      let inside = here_inside t p h in
      let value = number_is text utf8 (p + 1) k.place n (decimal n) (125 ∷ K) d.0 d.1 inside (still_left text k.does inside) in
      let inner : Trees = Lone (codes "opening_brace") p (p + 1) (Lone (codes "number") (p + 1) k.place (Lone (codes "closing_brace") k.place (k.place + 1) None')) in
      record {
        place = k.place + 1;
        inner = inner;
        does = call is.postfix_operator refl (left (left (left (right (no_sign t p) (call is.repeat_exact refl (seq (seq (brace t p) k.skip k.does) (stays 125 K k.place refl) (unbrace K k.place)))))));
        says = subst (λ m. Postfix text (codes "repeat_exact") inner (spanned.RepExact m)) value exact;
        flawless = flawless_tree text (λ vs. refl) (flawless_tree text (λ vs. refl) (flawless_none text) (count_flawless text utf8 (p + 1) k.place n _ value high low (flawless_tree text (λ vs. refl) (flawless_none text) (flawless_none text)))) (flawless_none text);
      }

  pub exact_text : (F : Text → Text) (e : Expression) (i : ℕ) → 1 ≤ i → i < 2 ^ 32 → IsNodeText text F e → IsNodeText text (λ K. F (123 ∷ (decimal i ++ (125 ∷ K)))) (RepExact e i)
  exact_text F e i low high node = counted_text (codes "repeat_exact") F (λ K. decimal i ++ (125 ∷ K)) e (spanned.RepExact i) (exactly i low high) node

  -- a number and no brace behind it
  no_exact : (n c : ℕ) (L : Text) → n < 2 ^ 32 → is_digit c ≡ false → is_solid c ≡ true → nat_eq 125 c ≡ false → (p : ℕ) → Calls is.repeat_exact (at p (123 ∷ (decimal n ++ (c ∷ L)))) Failure
  unfolding whitespace comment
  no_exact n c L high h i j p =
      let k = number_at (decimal n) c L (decimal_is n high).0 h (p + 1) in
      call is.repeat_exact refl (seq_second (seq (brace (decimal n ++ (c ∷ L)) p) k.skip k.does) (stays c L k.place i) (call is.closing_brace refl (sign_misses 125 [] c L k.place j)))

  at_least : (n : ℕ) → n < 2 ^ 32 → (p : ℕ) (K : Text) → IsLeftAt text p (123 ∷ (decimal n ++ (44 ∷ 125 ∷ K))) → Counted (codes "repeat_min") p (decimal n ++ (44 ∷ 125 ∷ K)) K (spanned.RepMin n)
  unfolding whitespace comment own_flaw
  at_least n high p K h =
      let d = decimal_is n high in
      let t : Text = decimal n ++ (44 ∷ 125 ∷ K) in
      let k = number_at (decimal n) 44 (125 ∷ K) d.0 refl (p + 1) in
      let q = k.place in
      let inside = here_inside t p h in
      let value = number_is text utf8 (p + 1) q n (decimal n) (44 ∷ 125 ∷ K) d.0 d.1 inside (still_left text k.does inside) in
      let inner : Trees = Lone (codes "opening_brace") p (p + 1) (Lone (codes "number") (p + 1) q (Lone (codes "comma") q (q + 1) (Lone (codes "closing_brace") (q + 1) (q + 1 + 1) None'))) in
      record {
        place = q + 1 + 1;
        inner = inner;
        does = call is.postfix_operator refl (left (left (right (right (no_sign t p) (no_exact n 44 (125 ∷ K) high refl refl refl p))
            (call is.repeat_min refl (seq (seq (seq (brace t p) k.skip k.does) (stays 44 (125 ∷ K) q refl) (a_comma (125 ∷ K) q)) (stays 125 K (q + 1) refl) (unbrace K (q + 1)))))));
        says = subst (λ m. Postfix text (codes "repeat_min") inner (spanned.RepMin m)) value min;
        flawless = flawless_tree text (λ vs. refl) (flawless_tree text (λ vs. refl) (flawless_none text) (number_flawless text utf8 (p + 1) q n q (q + 1) _ value high (flawless_tree text (λ vs. refl) (flawless_none text) (flawless_none text)))) (flawless_none text);
      }

  pub min_text : (F : Text → Text) (e : Expression) (i : ℕ) → i < 2 ^ 32 → IsNodeText text F e → IsNodeText text (λ K. F (123 ∷ (decimal i ++ (44 ∷ 125 ∷ K)))) (RepMin e i)
  min_text F e i high node = counted_text (codes "repeat_min") F (λ K. decimal i ++ (44 ∷ 125 ∷ K)) e (spanned.RepMin i) (at_least i high) node

  at_most : (n : ℕ) → 1 ≤ n → n < 2 ^ 32 → (p : ℕ) (K : Text) → IsLeftAt text p (123 ∷ 44 ∷ (decimal n ++ (125 ∷ K))) → Counted (codes "repeat_max") p (44 ∷ (decimal n ++ (125 ∷ K))) K (spanned.RepMax n)
  unfolding whitespace comment own_flaw
  at_most n low high p K h =
      let d = decimal_is n high in
      let u : Text = decimal n ++ (125 ∷ K) in
      let t : Text = 44 ∷ u in
      let k = number_at (decimal n) 125 K d.0 refl (p + 1 + 1) in
      let q = k.place in
      let inside = still_left text (a_comma u (p + 1)) (here_inside t p h) in
      let value = number_is text utf8 (p + 1 + 1) q n (decimal n) (125 ∷ K) d.0 d.1 inside (still_left text k.does inside) in
      let no_number : Calls is.number (at (p + 1) t) Failure = call is.number refl (rep_once (seq_first range)) in
      let stay = stays 44 u (p + 1) refl in
      let inner : Trees = Lone (codes "opening_brace") p (p + 1) (Lone (codes "comma") (p + 1) (p + 1 + 1) (Lone (codes "number") (p + 1 + 1) q (Lone (codes "closing_brace") q (q + 1) None'))) in
      record {
        place = q + 1;
        inner = inner;
        does = call is.postfix_operator refl (left (right
            (right (right (no_sign t p) (call is.repeat_exact refl (seq_first (seq_second (brace t p) stay no_number)))) (call is.repeat_min refl (seq_first (seq_first (seq_second (brace t p) stay no_number)))))
            (call is.repeat_max refl (seq (seq (seq (brace t p) stay (a_comma u (p + 1))) k.skip k.does) (stays 125 K q refl) (unbrace K q)))));
        says = subst (λ m. Postfix text (codes "repeat_max") inner (spanned.RepMax m)) value max;
        flawless = flawless_tree text (λ vs. refl) (flawless_tree text (λ vs. refl) (flawless_none text) (flawless_tree text (λ vs. refl) (flawless_none text) (count_flawless text utf8 (p + 1 + 1) q n _ value high low (flawless_tree text (λ vs. refl) (flawless_none text) (flawless_none text))))) (flawless_none text);
      }

  pub max_text : (F : Text → Text) (e : Expression) (i : ℕ) → 1 ≤ i → i < 2 ^ 32 → IsNodeText text F e → IsNodeText text (λ K. F (123 ∷ 44 ∷ (decimal i ++ (125 ∷ K)))) (RepMax e i)
  max_text F e i low high node = counted_text (codes "repeat_max") F (λ K. 44 ∷ (decimal i ++ (125 ∷ K))) e (spanned.RepMax i) (at_most i low high) node

  from_to : (m n : ℕ) → m < 2 ^ 32 → 1 ≤ n → n < 2 ^ 32 → (p : ℕ) (K : Text) → IsLeftAt text p (123 ∷ (decimal m ++ (44 ∷ 32 ∷ (decimal n ++ (125 ∷ K)))))
      → Counted (codes "repeat_min_max") p (decimal m ++ (44 ∷ 32 ∷ (decimal n ++ (125 ∷ K)))) K (spanned.RepMinMax m n)
  unfolding whitespace comment own_flaw
  from_to m n wide low high p K h =
      let c = decimal_is m wide in
      let d = decimal_is n high in
      let v : Text = decimal n ++ (125 ∷ K) in
      let u : Text = 32 ∷ v in
      let t : Text = decimal m ++ (44 ∷ u) in
      let j = number_at (decimal m) 44 u c.0 refl (p + 1) in
      let i = j.place in
      let k = number_at (decimal n) 125 K d.0 refl (i + 1 + 1) in
      let q = k.place in
      let inside = here_inside t p h in
      let middle = still_left text j.does inside in
      let first = number_is text utf8 (p + 1) i m (decimal m) (44 ∷ u) c.0 c.1 inside middle in
      let behind = still_left text (k.blank (i + 1)) (still_left text (a_comma u i) middle) in
      let second = number_is text utf8 (i + 1 + 1) q n (decimal n) (125 ∷ K) d.0 d.1 behind (still_left text k.does behind) in
      let two = seq (seq (brace t p) j.skip j.does) (stays 44 u i refl) (a_comma u i) in
      let no_min : Calls is.repeat_min (at p (123 ∷ t)) Failure = call is.repeat_min refl (seq_second two (k.blank (i + 1)) (k.no_brace (i + 1 + 1))) in
      let no_max : Calls is.repeat_max (at p (123 ∷ t)) Failure = call is.repeat_max refl (seq_first (seq_first (seq_second (brace t p) j.skip (j.no_comma (p + 1))))) in
      let inner : Trees = Lone (codes "opening_brace") p (p + 1) (Lone (codes "number") (p + 1) i (Lone (codes "comma") i (i + 1) (Lone (codes "number") (i + 1 + 1) q (Lone (codes "closing_brace") q (q + 1) None')))) in
      record {
        place = q + 1;
        inner = inner;
        does = call is.postfix_operator refl (right
            (right (right (right (no_sign t p) (no_exact m 44 u wide refl refl refl p)) no_min) no_max)
            (call is.repeat_min_max refl (seq (seq two (k.blank (i + 1)) k.does) (stays 125 K q refl) (unbrace K q))));
        says = subst (λ x. Postfix text (codes "repeat_min_max") inner (spanned.RepMinMax x n)) first (subst (λ x. Postfix text (codes "repeat_min_max") inner (spanned.RepMinMax (number text (p + 1) i) x)) second min_max);
        flawless = flawless_tree text (λ vs. refl) (flawless_tree text (λ vs. refl) (flawless_none text)
            (number_flawless text utf8 (p + 1) i m i (i + 1) _ first wide (count_flawless text utf8 (i + 1 + 1) q n _ second high low (flawless_tree text (λ vs. refl) (flawless_none text) (flawless_none text))))) (flawless_none text);
      }

  pub min_max_text : (F : Text → Text) (e : Expression) (i j : ℕ) → i < 2 ^ 32 → 1 ≤ j → j < 2 ^ 32 → IsNodeText text F e → IsNodeText text (λ K. F (123 ∷ (decimal i ++ (44 ∷ 32 ∷ (decimal j ++ (125 ∷ K)))))) (RepMinMax e i j)
  min_max_text F e i j wide low high node = counted_text (codes "repeat_min_max") F (λ K. decimal i ++ (44 ∷ 32 ∷ (decimal j ++ (125 ∷ K)))) e (spanned.RepMinMax i j) (from_to i j wide low high) node
