-- What is unrolled at each node from the leaves up is unrolled.
use Rattle.std.proofs.Common.{◌≡◌, refl, ℕ, zero, suc, ◌+◌, ◌-◌, min, List, [], ◌∷◌, ◌++◌, replicate, subst, add-one, sub-one, ap, sym, ◌∙◌, ◌<◌, ◌≤◌, arith}
use Rattle.std.proofs.lemmas.List.{append-nil}
use Rattle.std.specs.Prelude.{⊤}
use Rattle.base_language.specs.Language.Expression.{Expression, Str, Insens, Range, Ident, PeekSlice, PosPred, NegPred, Seq, Choice, Opt, Rep, RepOnce, RepExact, RepMin, RepMax, RepMinMax, Skip, Push, RestoreOnErr, PushLiteral, NodeTag}
use Rattle.base_language.specs.Language.Meaning.{in_sequence, exactly, at_least, from_to}
use Rattle.base_language.specs.Rewritings.Rewriting.{Many, no_step, one_step, here, Unrolls, unroll_exact, unroll_min, unroll_max, unroll_min_max}
use Rattle.front_optimizer.specs.Here.{unrolled_here}
use Rattle.front_optimizer.specs.Unrolled.{IsUnrolled}
use Rattle.front_optimizer.specs.Traversals.{HasNoOperands, BottomUp, left, Above}
use Rattle.front_optimizer.specs.Traversals as trav
use Rattle.front_optimizer.proofs.Operands.{Operands, no_operands}
use Rattle.front_optimizer.proofs.Chains as chains

-- one more copy
pub one_copy : (e f : Expression) (fs : List Expression) (i : ℕ) → in_sequence (replicate (i + 1) e ++ (f ∷ fs)) ≡ Seq e (in_sequence (replicate i e ++ (f ∷ fs)))
one_copy e f fs zero = refl
one_copy e f fs (suc i) = rw add-one refl

pub no_copy : (n : ℕ) (e o f : Expression) (fs : List Expression) → n ≡ 0 → o ≡ in_sequence (f ∷ fs) → o ≡ in_sequence (replicate n e ++ (f ∷ fs))
no_copy zero e o f fs h i = i
no_copy (suc n) e o f fs h i = absurd (omega arith)

pub first_copy : (e o : Expression) (n : ℕ) (f : Expression) (fs : List Expression) → (n ≡ 0 → ⊥) → o ≡ in_sequence (replicate (n - 1) e ++ (f ∷ fs)) → Seq e o ≡ in_sequence (replicate n e ++ (f ∷ fs))
first_copy e o zero f fs h i = absurd (h refl)
first_copy e o (suc n) f fs h i = rw i (rw sub-one (sym (one_copy e f fs n) ∙ ap (λ k. in_sequence (replicate k e ++ (f ∷ fs))) (add-one n)))

pub one_alone : (e : Expression) (n : ℕ) → n ≡ 1 → e ≡ exactly e n
one_alone e n h = rw h refl

pub none_needed : (e : Expression) (n : ℕ) → n ≡ 0 → Rep e ≡ at_least e n
none_needed e n h = rw h refl

pub all_optional : (e : Expression) (m n : ℕ) → m ≡ 0 → exactly (Opt e) n ≡ from_to e m n
all_optional e m n h =
    let p : min m n ≡ 0 = omega arith in
    let q : n - m ≡ n = omega arith in
    rw (p, q) refl

last_copy : (x : Expression) (k : ℕ) → replicate k x ++ (x ∷ []) ≡ x ∷ replicate k x
last_copy x zero = refl
last_copy x (suc k) = ap (λ es. x ∷ es) (last_copy x k)

pub exactly_copies : (x : Expression) (n : ℕ) → (n ≡ 0 → ⊥) → in_sequence (replicate (n - 1) x ++ (x ∷ [])) ≡ exactly x n
exactly_copies x zero h = absurd (h refl)
exactly_copies x (suc k) h = rw sub-one (ap in_sequence (last_copy x k))

pub few : (x : Expression) (m n : ℕ) → n ≤ m → exactly x n ≡ from_to x m n
few x m n h =
    let p : min m n ≡ n = omega arith in
    let q : n - m ≡ 0 = omega arith in
    rw (p, q) (ap in_sequence (sym (append-nil (replicate n x))))

positive : (x : Expression) (k : ℕ) → (k ≡ 0 → ⊥) → replicate k x ≡ x ∷ replicate (k - 1) x
positive x zero h = absurd (h refl)
positive x (suc k) h = rw sub-one refl

pub first_optional : (x : Expression) (m n : ℕ) → m < n → exactly (Opt x) (n - m) ≡ in_sequence (Opt x ∷ replicate (n - m - 1) (Opt x))
first_optional x m n h = ap in_sequence (positive (Opt x) (n - m) (λ e. absurd (omega arith)))

pub more : (x : Expression) (m n : ℕ) → m < n → in_sequence (replicate m x ++ (Opt x ∷ replicate (n - m - 1) (Opt x))) ≡ from_to x m n
more x m n h =
    let p : min m n ≡ m = omega arith in
    rw p (ap (λ es. in_sequence (replicate m x ++ es)) (sym (positive (Opt x) (n - m) (λ e. absurd (omega arith)))))

abbrev pub Unrolled : Expression → Expression → Type 0
Unrolled a b = unrolled_here a ≡ b

steps_here : (a : Expression) → Many Unrolls a (unrolled_here a)
steps_here (RepExact e i) = one_step (here unroll_exact) no_step
steps_here (RepMin e i) = one_step (here unroll_min) no_step
steps_here (RepMax e i) = one_step (here unroll_max) no_step
steps_here (RepMinMax e i j) = one_step (here unroll_min_max) no_step
steps_here _ = no_step

pub reached : {a b : Expression} → BottomUp Unrolled a b → Many Unrolls a b
reached d = chains.bottom_up_many Unrolls Unrolled (λ a b h. subst (Many Unrolls a) h (steps_here a)) d

abbrev AllUnrolled : List Expression → Type 0
AllUnrolled [] = ⊤
AllUnrolled (e ∷ es) = IsUnrolled e × AllUnrolled es

copies : (e : Expression) (n : ℕ) → IsUnrolled e → AllUnrolled (replicate n e)
copies e zero u = tt
copies e (suc n) u = (u, copies e n u)

both : (es fs : List Expression) → AllUnrolled es → AllUnrolled fs → AllUnrolled (es ++ fs)
both [] fs u v = v
both (e ∷ es) fs u v = (u.0, both es fs u.1 v)

sequence : (es : List Expression) → AllUnrolled es → IsUnrolled (in_sequence es)
sequence [] u = tt
sequence (e ∷ []) u = u.0
sequence (e ∷ (f ∷ es)) u = (u.0, sequence (f ∷ es) u.1)

at_node : (a : Expression) → Operands IsUnrolled a → IsUnrolled (unrolled_here a)
at_node (Str s) u = tt
at_node (Insens s) u = tt
at_node (Range s w) u = tt
at_node (Ident s) u = tt
at_node (PeekSlice i j) u = tt
at_node (Skip ss) u = tt
at_node (PushLiteral s) u = tt
at_node (PosPred e) u = u
at_node (NegPred e) u = u
at_node (Seq a b) u = u
at_node (Choice a b) u = u
at_node (Opt e) u = u
at_node (Rep e) u = u
at_node (Push e) u = u
at_node (NodeTag e t) u = u
at_node (RestoreOnErr e) u = u
at_node (RepOnce e) u = u
at_node (RepExact e i) u = sequence _ (copies e i u)
at_node (RepMin e i) u = sequence _ (both (replicate i e) (Rep e ∷ []) (copies e i u) (u, tt))
at_node (RepMax e i) u = sequence _ (copies (Opt e) i u)
at_node (RepMinMax e i j) u = sequence _ (both (replicate (min i j) e) (replicate (j - i) (Opt e)) (copies e (min i j) u) (copies (Opt e) (j - i) u))

mutual
  pub unrolled : {a b : Expression} → BottomUp Unrolled a b → IsUnrolled b
  unrolled (left {m = m} d r) = subst IsUnrolled r (at_node m (operands d))

  operands : {a b : Expression} → Above Unrolled a b → Operands IsUnrolled b
  operands (trav.Above.leaf h) = no_operands IsUnrolled _ h
  operands (trav.Above.seq d e) = (unrolled d, unrolled e)
  operands (trav.Above.choice d e) = (unrolled d, unrolled e)
  operands (trav.Above.pos_pred d) = unrolled d
  operands (trav.Above.neg_pred d) = unrolled d
  operands (trav.Above.opt d) = unrolled d
  operands (trav.Above.rep d) = unrolled d
  operands (trav.Above.rep_once d) = unrolled d
  operands (trav.Above.rep_exact d) = unrolled d
  operands (trav.Above.rep_min d) = unrolled d
  operands (trav.Above.rep_max d) = unrolled d
  operands (trav.Above.rep_min_max d) = unrolled d
  operands (trav.Above.push d) = unrolled d
  operands (trav.Above.tag d) = unrolled d
