-- The operation that takes the characters of a set and looks at what is behind them.
use Rattle.std.proofs.Common.{◌≡◌, refl, sym, ◌∙◌, ap, ap₂, subst, ℕ, suc, ◌+◌, ◌<◌, ◌==◌, inl, inr, List, [], ◌∷◌, Bool, true, false, drop, arith, nat_lt, if◌then◌else◌, ◌&&◌}
use Rattle.std.specs.Prelude.{not}
use Rattle.std.proofs.Math.Utf8.{scalar, scalars}
use Rattle.std.proofs.lemmas.Bool.{and_parts}
use Rattle.std.proofs.lemmas.Str.{scalars-chars}
use Rattle.base_language.specs.Language.Text.{Text}
use Rattle.base_language.specs.Language.Expression.{Grammar}
use Rattle.base_language.specs.Language.Matching.{starts_in}
use Rattle.base_language.specs.Language.Meaning.{Task}
use Rattle.base_language.specs.Language.State.{Classes, None', State, moved}
use Rattle.matcher_code.specs.Lists.{CodeLists, is_covered}
use Rattle.matcher_code.specs.declared.code.Op.TheVariants as op
use Rattle.matcher_code.specs.Reading.{char_len, flag, set_of, span, wide_len}
use Rattle.matcher_code.specs.Sets.{IsSetOf}
use Rattle.matcher_code.specs.Steps.{Config, has_flag, jump}
use Rattle.matcher_code.specs.Laid.{ComesOrPasses, GoesTo, HasTrivia, HasOutcome, TakesNone, at_label, skip_set, span_of}
use Rattle.matcher_code.specs.Reached.{IsAt, Reaches, in_bytes, with_failure, with_success, MayAsk}
use Rattle.matcher_code.proofs.Forward.{fail_forward, finds_nothing, goes_to, placed, tested}
use Rattle.matcher_code.proofs.Leaves.{leaf_found}
use Rattle.matcher_code.proofs.Reaching.{on_to, one_step, reaching, within}
use Rattle.matcher_code.proofs.CharacterSets.{below, misses_here, span_lands, told_here, zero_of}
use Rattle.matcher_code.proofs.Stacks.{here}
use Rattle.matcher_code.specs.Failures.{in_silence}

not_false : (b : Bool) → not b ≡ false → b ≡ true
not_false true e = refl
not_false false e = cc

not_true : (b : Bool) → not b ≡ true → b ≡ false
not_true true e = cc
not_true false e = refl

no_flag : (code : CodeLists) (set : ℕ) (bs : List ℕ) → has_flag code set bs ≡ false → char_len code set bs ≡ 0
no_flag code set [] e = refl
no_flag code set (b ∷ bs) e =
    ap (λ f. if nat_lt 4 f then wide_len (set_of code set) (b ∷ bs) else f) (zero_of (flag code set b) (not_false (flag code set b == 0) e))

-- a set of the same characters
same_span : (f g : ℕ → Bool) → ((c : ℕ) → c < 1114112 → f c ≡ g c) → (cs : Text) → scalars cs ≡ true → span_of f cs ≡ span_of g cs
same_span f g h [] u = refl
same_span f g h (c ∷ cs) u =
    let k = and_parts (scalar c) (scalars cs) u in
    ap₂ (λ b n. if b then suc n else 0) (h c (below c k.0)) (same_span f g h cs k.1)

module _ (code : CodeLists) (number : Text → ℕ) (fail : at_label code 0 ≡ op.Fail) (exact : Bool) (g : Grammar) (classes : Classes) (q k : Task) (set stops : ℕ)
    (blanks ranges : List (ℕ × ℕ)) (characters : ℕ → Bool) (noted : Bool) (l j n miss : ℕ) where
  pub trivia_of : at_label code l ≡ op.Trivia set stops miss j → IsSetOf code set blanks → ((c : ℕ) → c < 1114112 → is_covered blanks c ≡ characters c)
      → HasOutcome g classes q (skip_set characters) in_silence → IsSetOf code stops ranges → TakesNone g classes k ranges noted → (exact && noted) ≡ false → GoesTo code noted miss n → 0 < n
      → HasTrivia exact g classes code number q k l j n
  trivia_of skipped is_blank covers skips is takes allowed goes up = record {
    behind = λ s. moved (span_of characters s.rest) s;
    skips = skips;
    goes = goes_over;
  }
    where
      goes_over : (text : List ℕ) (s : State) (c : Config) → IsAt text s c.at c.stack → MayAsk exact text c.asked
          → IsAt text (moved (span_of characters s.rest) s) (moved (span_of characters s.rest) s).position (in_bytes (moved (span_of characters s.rest) s).stack)
          × ComesOrPasses g classes code number text k l j n (moved (span_of characters s.rest) s) c
      goes_over text s c at asks = (here landing, go (has_flag code stops (drop a text)) refl)
        where
          a : ℕ
          a = c.at + span code set 0 (drop c.at text)

          u : State
          u = moved (span_of characters s.rest) s

          landing : IsAt text u a c.stack
          landing =
              let v : scalars s.rest ≡ true = ap scalars at.rest ∙ scalars-chars (drop c.at text) at.valid in
              subst (λ i. IsAt text (moved i s) a c.stack) (same_span (is_covered blanks) characters covers s.rest v) (span_lands code set blanks is_blank text s c.at at)

          step_on : (b : Bool) → has_flag code stops (drop a text) ≡ b → Reaches code text 1 1 (jump l c) (record c { pc = if b then j else miss; at = a })
          step_on b e = one_step code text c skipped (λ z. z) (ap (λ y. record c { pc = if y then j else miss; at = a }) e)

          go : (b : Bool) → has_flag code stops (drop a text) ≡ b → ComesOrPasses g classes code number text k l j n u c
          go true e = inl (leaf_found code number fail text l j 0 c u a landing (step_on true e)).reaches
          go false e =
              let c1 = record c { at = a } in
              let z : starts_in (is_covered ranges) u.rest ≡ false =
              not_true (starts_in (is_covered ranges) u.rest) (sym (told_here code stops ranges is text u a landing) ∙ ap (λ i. i == 0) (no_flag code stops (drop a text) e)) in
              let d = takes u (misses_here ranges text u a landing z) in
              let f = placed code text number fail noted u in
              let r = on_to code text (step_on false e) (goes_to code text number fail noted miss n u c1 landing goes) in
              inr (
                d.0,
                within code text 1 8 (reaching code text r (fail_forward n (with_failure number f c1) up
                    ∙ (finds_nothing code text number fail n f c1 landing ∙ ap (λ y. jump n (with_success number u None' y c)) (sym (tested code text number fail exact g classes noted d.0 c1 landing asks allowed d.1 d.2))))) (omega arith) (omega arith),
              )
