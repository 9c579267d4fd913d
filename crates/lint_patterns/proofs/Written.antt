-- Leaves where all counts are written out.
use Rattle.std.proofs.Common.{◌≡◌, ◌∙◌, ℕ, zero, suc, ◌+◌, ◌*◌, ◌-◌, ◌≤◌, List, [], ◌∷◌, ◌++◌, Bool, true, false, if◌then◌else◌, refl, sym, ap, ap₂, ltb-false, arith}
use Rattle.std.specs.Prelude.{min, nat_lt, replicate}
use Rattle.std.specs.List.{AllByRecursion}
use Rattle.std.proofs.Math.Nat.{add-mul, mul-le-mul_right, mul_assoc}
use Rattle.base_language.specs.Language.Expression.{Expression, Str, PosPred, NegPred, Seq, Choice, Opt, Rep, RepOnce, RepExact, RepMin, RepMax, RepMinMax, Push, NodeTag, RestoreOnErr}
use Rattle.base_language.specs.Language.Meaning.{at_least, at_most, exactly, from_to, in_sequence}
use Rattle.base_language.specs.Rewritings.Rewriting.{Many, no_step, one_step, Unrolls, unroll_exact, unroll_min, unroll_max, unroll_min_max, Within, here, in_pos_pred, in_neg_pred, in_seq_left, in_seq_right, in_choice_left, in_choice_right, in_opt, in_rep, in_rep_once, in_rep_exact, in_rep_min, in_rep_max, in_rep_min_max, in_push, in_tag, in_restore}
use Rattle.lint_patterns.specs.Copies.{copies_by, crowded}
use Rattle.lint_patterns.specs.CopyLaws.{IsWrittenOut, MakesMany, leaves}
use Rattle.front_optimizer.specs.Unrolled.{IsUnrolled}
use Rattle.front_spanned.specs.Erasure.{round, without_spans}
use Rattle.front_spanned.specs.Spanned as spanned
use Rattle.front_spanned.specs.Spanned.{Span, Spanned, Leaf, One, Two, Unary}

-- the leaves, each as often as copies of it are made
abbrev pub copied : (Expression → Bool) → Expression → ℕ
copied p (PosPred e) = copied p e
copied p (NegPred e) = copied p e
copied p (Seq a b) = copied p a + copied p b
copied p (Choice a b) = copied p a + copied p b
copied p (Opt e) = copied p e
copied p (Rep e) = copied p e
copied p (RepOnce e) = copied p e
copied p (RepExact e n) = n * copied p e
copied p (RepMin e m) = (m + 1) * copied p e
copied p (RepMax e n) = n * copied p e
copied p (RepMinMax e m n) = n * copied p e
copied p (Push e) = copied p e
copied p (NodeTag e t) = copied p e
copied p (RestoreOnErr e) = copied p e
copied p (Str []) = 0
copied p e = if p e then 1 else 0

abbrev total : (Expression → Bool) → List Expression → ℕ
total p [] = 0
total p (e ∷ es) = copied p e + total p es

total-sequence : (p : Expression → Bool) (es : List Expression) → copied p (in_sequence es) ≡ total p es
total-sequence p [] = refl
total-sequence p (e ∷ []) = omega arith
total-sequence p (e ∷ (f ∷ es)) = ap (λ k. copied p e + k) (total-sequence p (f ∷ es))

total-append : (p : Expression → Bool) (es fs : List Expression) → total p (es ++ fs) ≡ total p es + total p fs
total-append p [] fs = omega arith
total-append p (e ∷ es) fs = let h = total-append p es fs in omega arith

total-replicate : (p : Expression → Bool) (n : ℕ) (e : Expression) → total p (replicate n e) ≡ n * copied p e
total-replicate p zero e = omega arith
total-replicate p (suc n) e = let h = total-replicate p n e in omega arith

-- the first copies and those that may be missing
all_copies : (m n c : ℕ) → min m n * c + (n - m) * c ≡ n * c
all_copies m n c =
    let e : min m n + (n - m) ≡ n = omega arith in
    sym (add-mul (min m n) (n - m) c) ∙ ap (λ k. k * c) e

unrolls_keep : (p : Expression → Bool) (a b : Expression) → Unrolls a b → copied p a ≡ copied p b
unrolls_keep p _ _ (unroll_exact {e = e} {i = i}) = sym (total-sequence p (replicate i e) ∙ total-replicate p i e)
unrolls_keep p _ _ (unroll_min {e = e} {i = i}) =
    let h = total-sequence p (replicate i e ++ Rep e ∷ []) in
    let j = total-append p (replicate i e) (Rep e ∷ []) in
    let k = total-replicate p i e in
    omega arith
unrolls_keep p _ _ (unroll_max {e = e} {i = i}) = sym (total-sequence p (replicate i (Opt e)) ∙ total-replicate p i (Opt e))
unrolls_keep p _ _ (unroll_min_max {e = e} {i = i} {j = j}) =
    let h = total-sequence p (replicate (min i j) e ++ replicate (j - i) (Opt e)) in
    let k = total-append p (replicate (min i j) e) (replicate (j - i) (Opt e)) in
    let l = total-replicate p (min i j) e in
    let m = total-replicate p (j - i) (Opt e) in
    let n = all_copies i j (copied p e) in
    omega arith

within_keeps : (p : Expression → Bool) (a b : Expression) → Within Unrolls a b → copied p a ≡ copied p b
within_keeps p _ _ (here {a = a} {b = b} h) = unrolls_keep p a b h
within_keeps p _ _ (in_pos_pred {a = a} {b = b} h) = within_keeps p a b h
within_keeps p _ _ (in_neg_pred {a = a} {b = b} h) = within_keeps p a b h
within_keeps p _ _ (in_seq_left {a = a} {b = b} {c = c} h) = ap (λ k. k + copied p c) (within_keeps p a b h)
within_keeps p _ _ (in_seq_right {a = a} {b = b} {c = c} h) = ap (λ k. copied p c + k) (within_keeps p a b h)
within_keeps p _ _ (in_choice_left {a = a} {b = b} {c = c} h) = ap (λ k. k + copied p c) (within_keeps p a b h)
within_keeps p _ _ (in_choice_right {a = a} {b = b} {c = c} h) = ap (λ k. copied p c + k) (within_keeps p a b h)
within_keeps p _ _ (in_opt {a = a} {b = b} h) = within_keeps p a b h
within_keeps p _ _ (in_rep {a = a} {b = b} h) = within_keeps p a b h
within_keeps p _ _ (in_rep_once {a = a} {b = b} h) = within_keeps p a b h
within_keeps p _ _ (in_rep_exact {a = a} {b = b} {i = i} h) = ap (λ k. i * k) (within_keeps p a b h)
within_keeps p _ _ (in_rep_min {a = a} {b = b} {i = i} h) = ap (λ k. (i + 1) * k) (within_keeps p a b h)
within_keeps p _ _ (in_rep_max {a = a} {b = b} {i = i} h) = ap (λ k. i * k) (within_keeps p a b h)
within_keeps p _ _ (in_rep_min_max {a = a} {b = b} {i = i} {j = j} h) = ap (λ k. j * k) (within_keeps p a b h)
within_keeps p _ _ (in_push {a = a} {b = b} h) = within_keeps p a b h
within_keeps p _ _ (in_tag {a = a} {b = b} h) = within_keeps p a b h
within_keeps p _ _ (in_restore {a = a} {b = b} h) = within_keeps p a b h

many_keep : (p : Expression → Bool) (a b : Expression) → Many Unrolls a b → copied p a ≡ copied p b
many_keep p _ _ no_step = refl
many_keep p _ _ (one_step {a = a} {b = b} {c = c} h k) = within_keeps p a b h ∙ many_keep p b c k

-- with no counts left, each leaf is there once
all_left : (p : Expression → Bool) (e : Expression) → IsUnrolled e → copied p e ≡ leaves p e
all_left p (PosPred e) h = all_left p e h
all_left p (NegPred e) h = all_left p e h
all_left p (Seq a b) h = ap₂ (λ m n. m + n) (all_left p a h.0) (all_left p b h.1)
all_left p (Choice a b) h = ap₂ (λ m n. m + n) (all_left p a h.0) (all_left p b h.1)
all_left p (Opt e) h = all_left p e h
all_left p (Rep e) h = all_left p e h
all_left p (RepOnce e) h = all_left p e h
all_left p (RepExact e n) h = absurd h
all_left p (RepMin e m) h = absurd h
all_left p (RepMax e n) h = absurd h
all_left p (RepMinMax e m n) h = absurd h
all_left p (Push e) h = all_left p e h
all_left p (NodeTag e t) h = all_left p e h
all_left p (RestoreOnErr e) h = all_left p e h
all_left p (Str []) h = refl
all_left p _ h = refl

written : (p : Expression → Bool) (e f : Expression) → IsWrittenOut e f → copied p e ≡ leaves p f
written p e f h = many_keep p e f h.steps ∙ all_left p f h.unrolled

-- an operator copies all that is inside
times : (p : Expression → Bool) (f : Unary) (e : Expression) → copied p (round f e) ≡ copies_by f * copied p e
times p spanned.PosPred e = omega arith
times p spanned.NegPred e = omega arith
times p spanned.Opt e = omega arith
times p spanned.Rep e = omega arith
times p spanned.RepOnce e = omega arith
times p (spanned.RepExact n) e = refl
times p (spanned.RepMin m) e = refl
times p (spanned.RepMax n) e = refl
times p (spanned.RepMinMax m n) e = refl
times p spanned.Push e = omega arith
times p (spanned.Tag t) e = omega arith

all_append : {X : Type 0} (P : X → Type 0) (xs ys : List X) → AllByRecursion P xs → AllByRecursion P ys → AllByRecursion P (xs ++ ys)
all_append P [] ys h k = k
all_append P (x ∷ xs) ys h k = (h.0, all_append P xs ys h.1 k)

left_part : (n a b k : ℕ) → n * (a + b) ≤ k → n * a ≤ k
left_part n a b k h = omega arith

right_part : (n a b k : ℕ) → n * (a + b) ≤ k → n * b ≤ k
right_part n a b k h = omega arith

inside : (n c d e k : ℕ) → e ≡ c * d → n * e ≤ k → n * c * d ≤ k
inside n c d e k h i =
    let j : n * c * d ≡ n * e = mul_assoc n c d ∙ ap (λ z. n * z) (sym h) in
    omega arith

often_enough : (n d k : ℕ) → 10000 ≤ n → n * d ≤ k → 10000 * d ≤ k
often_enough n d k h i = let l : 10000 * d ≤ n * d = mul-le-mul_right d h in omega arith

many_of : (body : Spanned) (s : Span) (f : Unary) (x : Spanned) (n : ℕ) → 10000 ≤ n
    → ((p : Expression → Bool) → n * copied p (without_spans x) ≤ copied p (without_spans body)) → MakesMany body (One s f x)
many_of body s f x n h k = record {
  span = s;
  sign = f;
  operand = x;
  repeats = refl;
  often = λ whole part w q p.
      let a = written p (without_spans body) whole w in
      let b = written p (without_spans x) part q in
      let c = often_enough n (copied p (without_spans x)) (copied p (without_spans body)) h (k p) in
      rw (← a, ← b) c;
}

crowds : (body x : Spanned) (n : ℕ) → ((p : Expression → Bool) → n * copied p (without_spans x) ≤ copied p (without_spans body)) → AllByRecursion (MakesMany body) (crowded n x)
crowds body (Leaf s e) n h = tt
crowds body (One s f x) n h =
    let next : (p : Expression → Bool) → n * copies_by f * copied p (without_spans x) ≤ copied p (without_spans body) =
    λ p. inside n (copies_by f) (copied p (without_spans x)) (copied p (round f (without_spans x))) (copied p (without_spans body)) (times p f (without_spans x)) (h p)
    in
    elim (nat_lt (n * copies_by f) 10000) as (λ b. nat_lt (n * copies_by f) 10000 ≡ b → AllByRecursion (MakesMany body) (if b then crowded (n * copies_by f) x else One s f x ∷ [])) [
      | true ↦ λ e. crowds body x (n * copies_by f) next
      | false ↦ λ e. (many_of body s f x (n * copies_by f) (ltb-false (n * copies_by f) 10000 e) next, tt)
    ] refl
crowds body (Two s spanned.Seq x y) n h =
    all_append (MakesMany body) (crowded n x) (crowded n y)
    (crowds body x n (λ p. left_part n (copied p (without_spans x)) (copied p (without_spans y)) (copied p (without_spans body)) (h p)))
    (crowds body y n (λ p. right_part n (copied p (without_spans x)) (copied p (without_spans y)) (copied p (without_spans body)) (h p)))
crowds body (Two s spanned.Choice x y) n h =
    all_append (MakesMany body) (crowded n x) (crowded n y)
    (crowds body x n (λ p. left_part n (copied p (without_spans x)) (copied p (without_spans y)) (copied p (without_spans body)) (h p)))
    (crowds body y n (λ p. right_part n (copied p (without_spans x)) (copied p (without_spans y)) (copied p (without_spans body)) (h p)))

once : (k : ℕ) → 1 * k ≤ k
once k = omega arith

pub many_are_made : (body : Spanned) → AllByRecursion (MakesMany body) (crowded 1 body)
many_are_made body = crowds body body 1 (λ p. once (copied p (without_spans body)))
