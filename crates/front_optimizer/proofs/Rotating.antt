-- What is rotated at each node from the root down is rotated everywhere.
use Rattle.std.proofs.Common.{◌≡◌, refl, ℕ, Box, Global}
use Rattle.base_language.specs.Language.Text.{Text}
use Rattle.base_language.specs.Language.Expression.{Expression, whole, of_tag}
use Rattle.base_language.specs.Language.Expression as e
use Rattle.base_ast.specs.Ast.{expression_of}
use Rattle.base_ast.specs.declared.ast.Expr.{Expr, Seq', Choice'}
use Rattle.base_ast.specs.declared.ast.Expr.TheVariants.{Seq, Choice}
use Rattle.base_language.specs.Rewritings.Rewriting.{Rotates, rotate_sequence, rotate_choice, here, in_seq_left, in_seq_right, in_choice_left, in_choice_right, Many, no_step, one_step, Nowhere, IsDone, in_tag}
use Rattle.base_language.proofs.RewritingAnywhere as anywhere
use Rattle.front_optimizer.specs.Here.{Exhausted, stop, again}
use Rattle.front_optimizer.specs.Traversals.{HasNoOperands, TopDown, met, Below}
use Rattle.front_optimizer.specs.Traversals as trav

abbrev Rotated : Expression → Expression → Type 0
Rotated a b = IsDone Rotates a b

-- 1. below what is neither `~` nor `|`
pub pos_pred : {a b : Expression} → Rotated a b → Rotated (e.PosPred a) (e.PosPred b)
pos_pred d = anywhere.done_pos_pred Rotates (λ q r. elim r [ ]) d

pub neg_pred : {a b : Expression} → Rotated a b → Rotated (e.NegPred a) (e.NegPred b)
neg_pred d = anywhere.done_neg_pred Rotates (λ q r. elim r [ ]) d

pub opt : {a b : Expression} → Rotated a b → Rotated (e.Opt a) (e.Opt b)
opt d = anywhere.done_opt Rotates (λ q r. elim r [ ]) d

pub rep : {a b : Expression} → Rotated a b → Rotated (e.Rep a) (e.Rep b)
rep d = anywhere.done_rep Rotates (λ q r. elim r [ ]) d

pub rep_once : {a b : Expression} → Rotated a b → Rotated (e.RepOnce a) (e.RepOnce b)
rep_once d = anywhere.done_rep_once Rotates (λ q r. elim r [ ]) d

pub rep_exact : {a b : Expression} {n : ℕ} → Rotated a b → Rotated (e.RepExact a n) (e.RepExact b n)
rep_exact d = anywhere.done_rep_exact Rotates (λ q r. elim r [ ]) d

pub rep_min : {a b : Expression} {m : ℕ} → Rotated a b → Rotated (e.RepMin a m) (e.RepMin b m)
rep_min d = anywhere.done_rep_min Rotates (λ q r. elim r [ ]) d

pub rep_max : {a b : Expression} {n : ℕ} → Rotated a b → Rotated (e.RepMax a n) (e.RepMax b n)
rep_max d = anywhere.done_rep_max Rotates (λ q r. elim r [ ]) d

pub rep_min_max : {a b : Expression} {m n : ℕ} → Rotated a b → Rotated (e.RepMinMax a m n) (e.RepMinMax b m n)
rep_min_max d = anywhere.done_rep_min_max Rotates (λ q r. elim r [ ]) d

pub push : {a b : Expression} → Rotated a b → Rotated (e.Push a) (e.Push b)
push d = anywhere.done_push Rotates (λ q r. elim r [ ]) d

pub tag : {a b : Expression} {t : Text} → Rotated a b → Rotated (e.NodeTag a t) (e.NodeTag b t)
tag {b = b} {t = t} d = record { reached = anywhere.along Rotates (λ x. e.NodeTag x t) (λ x y w. in_tag w) d.reached; nowhere = at }
  where
    at : Nowhere Rotates (e.NodeTag b t)
    at p q whole r = elim r [ ]
    at p q (of_tag k) r = d.nowhere p q k r

-- 2. a `~` or `|` whose left side is none: rotations of the left side keep it so
pub data IsSequence : Expression → Type 0 where
  is_sequence : {a b : Expression} → IsSequence (e.Seq a b)

pub data IsChoice : Expression → Type 0 where
  is_choice : {a b : Expression} → IsChoice (e.Choice a b)

was_sequence : {a b : Expression} → Many Rotates a b → IsSequence b → IsSequence a
was_sequence no_step s = s
was_sequence (one_step (here rotate_sequence) m) s = is_sequence
was_sequence (one_step (here rotate_choice) m) s = elim (was_sequence m s) [ ]
was_sequence (one_step (in_seq_left w) m) s = is_sequence
was_sequence (one_step (in_seq_right w) m) s = is_sequence
was_sequence (one_step _ m) s = elim (was_sequence m s) [ ]

was_choice : {a b : Expression} → Many Rotates a b → IsChoice b → IsChoice a
was_choice no_step s = s
was_choice (one_step (here rotate_choice) m) s = is_choice
was_choice (one_step (here rotate_sequence) m) s = elim (was_choice m s) [ ]
was_choice (one_step (in_choice_left w) m) s = is_choice
was_choice (one_step (in_choice_right w) m) s = is_choice
was_choice (one_step _ m) s = elim (was_choice m s) [ ]

no_rotation_of_sequence : {b d : Expression} → (IsSequence b → ⊥) → (q : Expression) → Rotates (e.Seq b d) q → ⊥
no_rotation_of_sequence n q rotate_sequence = n is_sequence

no_rotation_of_choice : {b d : Expression} → (IsChoice b → ⊥) → (q : Expression) → Rotates (e.Choice b d) q → ⊥
no_rotation_of_choice n q rotate_choice = n is_choice

pub sequence : {a b c d : Expression} → (IsSequence a → ⊥) → Rotated a b → Rotated c d → Rotated (e.Seq a c) (e.Seq b d)
sequence n i j = anywhere.done_seq Rotates (no_rotation_of_sequence (λ s. n (was_sequence i.reached s))) i j

pub choice : {a b c d : Expression} → (IsChoice a → ⊥) → Rotated a b → Rotated c d → Rotated (e.Choice a c) (e.Choice b d)
choice n i j = anywhere.done_choice Rotates (no_rotation_of_choice (λ s. n (was_choice i.reached s))) i j

turns : {a b : Expression} → Exhausted Rotates a b → Many Rotates a b
turns (stop n) = no_step
turns (again r d) = one_step (here r) (turns d)

at_end : {a b : Expression} → Exhausted Rotates a b → (q : Expression) → Rotates b q → ⊥
at_end (stop n) q r = n q r
at_end (again s d) q r = at_end d q r

left_sequence : {a c : Expression} → ((q : Expression) → Rotates (e.Seq a c) q → ⊥) → IsSequence a → ⊥
left_sequence n is_sequence = n _ rotate_sequence

left_choice : {a c : Expression} → ((q : Expression) → Rotates (e.Choice a c) q → ⊥) → IsChoice a → ⊥
left_choice n is_choice = n _ rotate_choice

leaf : (a : Expression) → HasNoOperands a → Nowhere Rotates a
leaf (e.Str s) h p q whole r = elim r [ ]
leaf (e.Insens s) h p q whole r = elim r [ ]
leaf (e.Range s u) h p q whole r = elim r [ ]
leaf (e.Ident s) h p q whole r = elim r [ ]
leaf (e.PeekSlice m n) h p q whole r = elim r [ ]
leaf (e.Skip ss) h p q whole r = elim r [ ]
leaf (e.PushLiteral s) h p q whole r = elim r [ ]
leaf (e.PosPred x) h p q k r = absurd h
leaf (e.NegPred x) h p q k r = absurd h
leaf (e.Seq a b) h p q k r = absurd h
leaf (e.Choice a b) h p q k r = absurd h
leaf (e.Opt x) h p q k r = absurd h
leaf (e.Rep x) h p q k r = absurd h
leaf (e.RepOnce x) h p q k r = absurd h
leaf (e.RepExact x i) h p q k r = absurd h
leaf (e.RepMin x i) h p q k r = absurd h
leaf (e.RepMax x i) h p q k r = absurd h
leaf (e.RepMinMax x i j) h p q k r = absurd h
leaf (e.Push x) h p q k r = absurd h
leaf (e.NodeTag x t) h p q k r = absurd h
leaf (e.RestoreOnErr x) h p q k r = absurd h

mutual
  pub rotated : {a b : Expression} → TopDown (Exhausted Rotates) a b → Rotated a b
  rotated (met r d) = let i = below d (at_end r) in record { reached = anywhere.after Rotates (turns r) i.reached; nowhere = i.nowhere }

  below : {a b : Expression} → Below (Exhausted Rotates) a b → ((q : Expression) → Rotates a q → ⊥) → Rotated a b
  below (trav.Below.leaf {a = a} h) n = record { reached = no_step; nowhere = leaf a h }
  below (trav.Below.seq d f) n = sequence (left_sequence n) (rotated d) (rotated f)
  below (trav.Below.choice d f) n = choice (left_choice n) (rotated d) (rotated f)
  below (trav.Below.pos_pred d) n = pos_pred (rotated d)
  below (trav.Below.neg_pred d) n = neg_pred (rotated d)
  below (trav.Below.opt d) n = opt (rotated d)
  below (trav.Below.rep d) n = rep (rotated d)
  below (trav.Below.rep_once d) n = rep_once (rotated d)
  below (trav.Below.rep_exact d) n = rep_exact (rotated d)
  below (trav.Below.rep_min d) n = rep_min (rotated d)
  below (trav.Below.rep_max d) n = rep_max (rotated d)
  below (trav.Below.rep_min_max d) n = rep_min_max (rotated d)
  below (trav.Below.push d) n = push (rotated d)
  below (trav.Below.tag d) n = tag (rotated d)

-- what does not turn at its root
abbrev Boxed : Type 0
Boxed = Box Expr Global

pub no_sequence : (x : Expr) → ((a b : Boxed) → x ≡ Seq a b → ⊥) → (b q : Expression) → Rotates (e.Seq (expression_of x) b) q → ⊥
no_sequence (Seq' p x r y) n b q k = n _ _ refl
no_sequence _ n b q k = elim k [ ]

pub no_choice : (x : Expr) → ((a b : Boxed) → x ≡ Choice a b → ⊥) → (b q : Expression) → Rotates (e.Choice (expression_of x) b) q → ⊥
no_choice (Choice' p x r y) n b q k = n _ _ refl
no_choice _ n b q k = elim k [ ]

pub no_turn : (x : Expr) → ((a b : Boxed) → x ≡ Seq a b → ⊥) → ((a b : Boxed) → x ≡ Choice a b → ⊥) → (q : Expression) → Rotates (expression_of x) q → ⊥
no_turn (Seq' p x r y) n m q k = n _ _ refl
no_turn (Choice' p x r y) n m q k = m _ _ refl
no_turn _ n m q k = elim k [ ]
