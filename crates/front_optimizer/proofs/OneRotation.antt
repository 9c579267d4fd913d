-- Rotations lead to one end at most: the form that is nested to the right.
use Rattle.std.proofs.Common.{◌≡◌, refl, sym, ◌∙◌, ap}
use Rattle.base_language.specs.Language.Expression.{Expression, Seq, Choice, PosPred, NegPred, Opt, Rep, RepOnce, RepExact, RepMin, RepMax, RepMinMax, Push, NodeTag, RestoreOnErr, whole, of_pos_pred, of_neg_pred, of_opt, of_rep, of_rep_once, of_rep_exact, of_rep_min, of_rep_max, of_rep_min_max, of_push, of_tag, of_restore, of_seq_left, of_seq_right, of_choice_left, of_choice_right}
use Rattle.base_language.specs.Rewritings.Rewriting.{Within, here, in_pos_pred, in_neg_pred, in_opt, in_rep, in_rep_once, in_rep_exact, in_rep_min, in_rep_max, in_rep_min_max, in_push, in_tag, in_restore, in_seq_left, in_seq_right, in_choice_left, in_choice_right, Many, no_step, one_step, Nowhere, IsDone, Rotates, rotate_sequence, rotate_choice}

-- a sequence before an expression, and an expression before another
abbrev pub before : Expression → Expression → Expression
before (Seq a b) c = Seq a (before b c)
before a c = Seq a c

abbrev pub rather : Expression → Expression → Expression
rather (Choice a b) c = Choice a (rather b c)
rather a c = Choice a c

abbrev pub to_the_right : Expression → Expression
to_the_right (Seq a b) = before (to_the_right a) (to_the_right b)
to_the_right (Choice a b) = rather (to_the_right a) (to_the_right b)
to_the_right (PosPred e) = PosPred (to_the_right e)
to_the_right (NegPred e) = NegPred (to_the_right e)
to_the_right (Opt e) = Opt (to_the_right e)
to_the_right (Rep e) = Rep (to_the_right e)
to_the_right (RepOnce e) = RepOnce (to_the_right e)
to_the_right (RepExact e i) = RepExact (to_the_right e) i
to_the_right (RepMin e i) = RepMin (to_the_right e) i
to_the_right (RepMax e i) = RepMax (to_the_right e) i
to_the_right (RepMinMax e i j) = RepMinMax (to_the_right e) i j
to_the_right (Push e) = Push (to_the_right e)
to_the_right (NodeTag e i) = NodeTag (to_the_right e) i
to_the_right (RestoreOnErr e) = RestoreOnErr (to_the_right e)
to_the_right e = e

before_before : (a b c : Expression) → before (before a b) c ≡ before a (before b c)
before_before (Seq x y) b c = ap (Seq x) (before_before y b c)
before_before a b c = refl

rather_rather : (a b c : Expression) → rather (rather a b) c ≡ rather a (rather b c)
rather_rather (Choice x y) b c = ap (Choice x) (rather_rather y b c)
rather_rather a b c = refl

kept_here : {a b : Expression} → Rotates a b → to_the_right a ≡ to_the_right b
kept_here (rotate_sequence {a} {b} {c}) = before_before (to_the_right a) (to_the_right b) (to_the_right c)
kept_here (rotate_choice {a} {b} {c}) = rather_rather (to_the_right a) (to_the_right b) (to_the_right c)

kept : {a b : Expression} → Within Rotates a b → to_the_right a ≡ to_the_right b
kept (here r) = kept_here r
kept (in_pos_pred w) = ap PosPred (kept w)
kept (in_neg_pred w) = ap NegPred (kept w)
kept (in_opt w) = ap Opt (kept w)
kept (in_rep w) = ap Rep (kept w)
kept (in_rep_once w) = ap RepOnce (kept w)
kept (in_rep_exact {i = i} w) = ap (λ x. RepExact x i) (kept w)
kept (in_rep_min {i = i} w) = ap (λ x. RepMin x i) (kept w)
kept (in_rep_max {i = i} w) = ap (λ x. RepMax x i) (kept w)
kept (in_rep_min_max {i = i} {j = j} w) = ap (λ x. RepMinMax x i j) (kept w)
kept (in_push w) = ap Push (kept w)
kept (in_tag {t = i} w) = ap (λ x. NodeTag x i) (kept w)
kept (in_restore w) = ap RestoreOnErr (kept w)
kept (in_seq_left {c = c} w) = ap (λ x. before x (to_the_right c)) (kept w)
kept (in_seq_right {c = c} w) = ap (before (to_the_right c)) (kept w)
kept (in_choice_left {c = c} w) = ap (λ x. rather x (to_the_right c)) (kept w)
kept (in_choice_right {c = c} w) = ap (rather (to_the_right c)) (kept w)

kept_along : {a b : Expression} → Many Rotates a b → to_the_right a ≡ to_the_right b
kept_along no_step = refl
kept_along (one_step w m) = kept w ∙ kept_along m

first : (a b : Expression) → ((q : Expression) → Rotates (Seq a b) q → ⊥) → before a b ≡ Seq a b
first (Seq x y) b n = absurd (n _ rotate_sequence)
first a b n = refl

first_rather : (a b : Expression) → ((q : Expression) → Rotates (Choice a b) q → ⊥) → rather a b ≡ Choice a b
first_rather (Choice x y) b n = absurd (n _ rotate_choice)
first_rather a b n = refl

stands : (e : Expression) → Nowhere Rotates e → to_the_right e ≡ e
stands (Seq a b) n =
    let l = stands a (λ p q k r. n p q (of_seq_left k) r) in
    let r = stands b (λ p q k r. n p q (of_seq_right k) r) in
    ap (λ x. before x (to_the_right b)) l ∙ ap (before a) r ∙ first a b (λ q r. n _ q whole r)
stands (Choice a b) n =
    let l = stands a (λ p q k r. n p q (of_choice_left k) r) in
    let r = stands b (λ p q k r. n p q (of_choice_right k) r) in
    ap (λ x. rather x (to_the_right b)) l ∙ ap (rather a) r ∙ first_rather a b (λ q r. n _ q whole r)
stands (PosPred e) n = ap PosPred (stands e (λ p q k r. n p q (of_pos_pred k) r))
stands (NegPred e) n = ap NegPred (stands e (λ p q k r. n p q (of_neg_pred k) r))
stands (Opt e) n = ap Opt (stands e (λ p q k r. n p q (of_opt k) r))
stands (Rep e) n = ap Rep (stands e (λ p q k r. n p q (of_rep k) r))
stands (RepOnce e) n = ap RepOnce (stands e (λ p q k r. n p q (of_rep_once k) r))
stands (RepExact e i) n = ap (λ x. RepExact x i) (stands e (λ p q k r. n p q (of_rep_exact k) r))
stands (RepMin e i) n = ap (λ x. RepMin x i) (stands e (λ p q k r. n p q (of_rep_min k) r))
stands (RepMax e i) n = ap (λ x. RepMax x i) (stands e (λ p q k r. n p q (of_rep_max k) r))
stands (RepMinMax e i j) n = ap (λ x. RepMinMax x i j) (stands e (λ p q k r. n p q (of_rep_min_max k) r))
stands (Push e) n = ap Push (stands e (λ p q k r. n p q (of_push k) r))
stands (NodeTag e i) n = ap (λ x. NodeTag x i) (stands e (λ p q k r. n p q (of_tag k) r))
stands (RestoreOnErr e) n = ap RestoreOnErr (stands e (λ p q k r. n p q (of_restore k) r))
stands e n = refl

pub one_rotation : (a b c : Expression) → IsDone Rotates a b → IsDone Rotates a c → b ≡ c
one_rotation a b c i j = sym (stands b i.nowhere) ∙ sym (kept_along i.reached) ∙ kept_along j.reached ∙ stands c j.nowhere
