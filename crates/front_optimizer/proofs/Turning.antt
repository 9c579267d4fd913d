-- Where nothing stands in place of which a run may be put, rotations make no such thing, and `skip` does
-- nothing.
use Rattle.std.proofs.Common.{◌≡◌, inl, inr, refl, subst, sym, [], ◌∷◌, ◌++◌, Global, Box, Bool, true, false, Result, Ok, Err, IfOk}
use Rattle.std.specs.Bool.{OnTrue}
use Rattle.std.specs.declared.alloc.AllocError.{AllocError}
use Rattle.std.specs.HashMap.{HashMap}
use Rattle.std.specs.declared.string.String.{String}
use Rattle.base_language.specs.Language.Text.{Text}
use Rattle.base_language.specs.Language.Expression as e
use Rattle.base_language.specs.Language.Expression.{Expression, RuleType, Atomic, Rule, Grammar, Part, whole, of_pos_pred, of_neg_pred, of_seq_left, of_seq_right, of_choice_left, of_choice_right, of_opt, of_rep, of_rep_once, of_rep_exact, of_rep_min, of_rep_max, of_rep_min_max, of_push, of_tag}
use Rattle.base_language.specs.Rewritings.Rewriting.{Within, here, in_pos_pred, in_neg_pred, in_seq_left, in_seq_right, in_choice_left, in_choice_right, in_opt, in_rep, in_rep_once, in_rep_exact, in_rep_min, in_rep_max, in_rep_min_max, in_push, in_restore, Many, no_step, one_step, IsDone, Rotates, rotate_sequence, rotate_choice, SkipsUntil, skip_until, in_tag}
use Rattle.base_ast.specs.Ast.{expression_of, rule_type_of}
use Rattle.base_ast.specs.declared.ast.Expr.{Expr, Str, Insens, Range, Ident, PeekSlice, PosPred', NegPred', Seq', Choice', Opt', Rep', RepOnce', RepExact', RepMin', RepMax', RepMinMax', Skip, Push', PushLiteral, NodeTag'}
use Rattle.base_ast.specs.declared.ast.RuleType as code
use Rattle.base_ast.specs.declared.ast.RuleType.TheVariants as is
use Rattle.base_ast.specs.declared.ast.Expr.TheVariants as form
use Rattle.front_optimizer.specs.Bodies.{IsTurn, HasNoTurn, HaveNoTurns, SufficeFor, SkippedHere, stays}
use Rattle.front_optimizer.proofs.Skipping.{nothing_done}

abbrev Boxed : Type 0
Boxed = Box Expr Global

turn_name : (a d : Expression) → IsTurn (e.Rep (e.Seq a d)) → (n : Text) × (d ≡ e.Ident n)
turn_name (e.NegPred x) (e.Ident n) t = (n, refl)
turn_name _ _ t = absurd t

-- no name comes of a rotation
pair_no_name : {a b : Expression} {n : Text} → e.Seq a b ≡ e.Ident n → ⊥
pair_no_name h = cc

no_name : {a b : Expression} {n : Text} → Within Rotates a b → b ≡ e.Ident n → ⊥
no_name (here rotate_sequence) h = cc
no_name (here rotate_choice) h = cc
no_name _ h = cc

-- what is one after a rotation was one before
turn_inside : {a b : Expression} → Within Rotates a b → IsTurn (e.Rep b) → IsTurn (e.Rep a)
turn_inside (in_seq_left {c = c} (in_neg_pred {a = a} {b = b} w)) t = let k = turn_name (e.NegPred b) c t in subst (λ d. IsTurn (e.Rep (e.Seq (e.NegPred a) d))) (sym k.1) tt
turn_inside (in_seq_left (here rotate_sequence)) t = absurd t
turn_inside (in_seq_left (here rotate_choice)) t = absurd t
turn_inside (in_seq_right {b = b} {c = c} w) t = absurd (let k = turn_name c b t in no_name w k.1)
turn_inside (here (rotate_sequence {a = a} {b = b} {c = c})) t = absurd (let k = turn_name a (e.Seq b c) t in pair_no_name k.1)
turn_inside (here rotate_choice) t = absurd t
turn_inside _ t = absurd t

rotated : {a b : Expression} → Within Rotates a b → HasNoTurn a → HasNoTurn b
rotated (here rotate_sequence) (r, (s, f, g), h) = (r, f, (s, g, h))
rotated (here rotate_choice) (r, (s, f, g), h) = (r, f, (s, g, h))
rotated (in_rep w) (r, h) = ((λ t. r (turn_inside w t)), rotated w h)
rotated (in_seq_left w) (r, f, g) = (r, rotated w f, g)
rotated (in_seq_right w) (r, f, g) = (r, f, rotated w g)
rotated (in_choice_left w) (r, f, g) = (r, rotated w f, g)
rotated (in_choice_right w) (r, f, g) = (r, f, rotated w g)
rotated (in_restore w) r = r
rotated (in_pos_pred w) (r, h) = (r, rotated w h)
rotated (in_neg_pred w) (r, h) = (r, rotated w h)
rotated (in_opt w) (r, h) = (r, rotated w h)
rotated (in_rep_once w) (r, h) = (r, rotated w h)
rotated (in_rep_exact w) (r, h) = (r, rotated w h)
rotated (in_rep_min w) (r, h) = (r, rotated w h)
rotated (in_rep_max w) (r, h) = (r, rotated w h)
rotated (in_rep_min_max w) (r, h) = (r, rotated w h)
rotated (in_push w) (r, h) = (r, rotated w h)
rotated (in_tag w) (r, h) = (r, rotated w h)

pub by_rotations : {a b : Expression} → Many Rotates a b → HasNoTurn a → HasNoTurn b
by_rotations no_step h = h
by_rotations (one_step w m) h = by_rotations m (rotated w h)

turn : {g : Grammar} {y : RuleType} {a b : Expression} → SkipsUntil g y a b → IsTurn a
turn (skip_until k) = tt

module _ (g : Grammar) (y : RuleType) where
  nowhere : (x : Expr) → HasNoTurn (expression_of x) → (p q : Expression) → Part (expression_of x) p → SkipsUntil g y p q → ⊥
  nowhere (Str s) r p q whole k = r (turn k)
  nowhere (Insens s) r p q whole k = r (turn k)
  nowhere (Range s t) r p q whole k = r (turn k)
  nowhere (Ident s) r p q whole k = r (turn k)
  nowhere (PeekSlice i j) r p q whole k = r (turn k)
  nowhere (Skip ss) r p q whole k = r (turn k)
  nowhere (PushLiteral u) r p q whole k = r (turn k)
  nowhere (PosPred' b z) (r, h) p q whole k = r (turn k)
  nowhere (PosPred' b z) (r, h) p q (of_pos_pred d) k = nowhere z h p q d k
  nowhere (NegPred' b z) (r, h) p q whole k = r (turn k)
  nowhere (NegPred' b z) (r, h) p q (of_neg_pred d) k = nowhere z h p q d k
  nowhere (Opt' b z) (r, h) p q whole k = r (turn k)
  nowhere (Opt' b z) (r, h) p q (of_opt d) k = nowhere z h p q d k
  nowhere (Rep' b z) (r, h) p q whole k = r (turn k)
  nowhere (Rep' b z) (r, h) p q (of_rep d) k = nowhere z h p q d k
  nowhere (RepOnce' b z) (r, h) p q whole k = r (turn k)
  nowhere (RepOnce' b z) (r, h) p q (of_rep_once d) k = nowhere z h p q d k
  nowhere (RepExact' b z i) (r, h) p q whole k = r (turn k)
  nowhere (RepExact' b z i) (r, h) p q (of_rep_exact d) k = nowhere z h p q d k
  nowhere (RepMin' b z i) (r, h) p q whole k = r (turn k)
  nowhere (RepMin' b z i) (r, h) p q (of_rep_min d) k = nowhere z h p q d k
  nowhere (RepMax' b z i) (r, h) p q whole k = r (turn k)
  nowhere (RepMax' b z i) (r, h) p q (of_rep_max d) k = nowhere z h p q d k
  nowhere (RepMinMax' b z i j) (r, h) p q whole k = r (turn k)
  nowhere (RepMinMax' b z i j) (r, h) p q (of_rep_min_max d) k = nowhere z h p q d k
  nowhere (Push' b z) (r, h) p q whole k = r (turn k)
  nowhere (Push' b z) (r, h) p q (of_push d) k = nowhere z h p q d k
  nowhere (NodeTag' b z u) (r, h) p q whole k = r (turn k)
  nowhere (NodeTag' b z u) (r, h) p q (of_tag d) k = nowhere z h p q d k
  nowhere (Seq' b z c w) (r, f, h) p q whole k = r (turn k)
  nowhere (Seq' b z c w) (r, f, h) p q (of_seq_left d) k = nowhere z f p q d k
  nowhere (Seq' b z c w) (r, f, h) p q (of_seq_right d) k = nowhere w h p q d k
  nowhere (Choice' b z c w) (r, f, h) p q whole k = r (turn k)
  nowhere (Choice' b z c w) (r, f, h) p q (of_choice_left d) k = nowhere z f p q d k
  nowhere (Choice' b z c w) (r, f, h) p q (of_choice_right d) k = nowhere w h p q d k

  within_nowhere : (x : Expr) → HasNoTurn (expression_of x) → {b : Expression} → Within (SkipsUntil g y) (expression_of x) b → ⊥
  within_nowhere (Str s) r (here k) = r (turn k)
  within_nowhere (Insens s) r (here k) = r (turn k)
  within_nowhere (Range s t) r (here k) = r (turn k)
  within_nowhere (Ident s) r (here k) = r (turn k)
  within_nowhere (PeekSlice i j) r (here k) = r (turn k)
  within_nowhere (Skip ss) r (here k) = r (turn k)
  within_nowhere (PushLiteral u) r (here k) = r (turn k)
  within_nowhere (PosPred' b z) (r, h) (here k) = r (turn k)
  within_nowhere (PosPred' b z) (r, h) (in_pos_pred w) = within_nowhere z h w
  within_nowhere (NegPred' b z) (r, h) (here k) = r (turn k)
  within_nowhere (NegPred' b z) (r, h) (in_neg_pred w) = within_nowhere z h w
  within_nowhere (Opt' b z) (r, h) (here k) = r (turn k)
  within_nowhere (Opt' b z) (r, h) (in_opt w) = within_nowhere z h w
  within_nowhere (Rep' b z) (r, h) (here k) = r (turn k)
  within_nowhere (Rep' b z) (r, h) (in_rep w) = within_nowhere z h w
  within_nowhere (RepOnce' b z) (r, h) (here k) = r (turn k)
  within_nowhere (RepOnce' b z) (r, h) (in_rep_once w) = within_nowhere z h w
  within_nowhere (RepExact' b z i) (r, h) (here k) = r (turn k)
  within_nowhere (RepExact' b z i) (r, h) (in_rep_exact w) = within_nowhere z h w
  within_nowhere (RepMin' b z i) (r, h) (here k) = r (turn k)
  within_nowhere (RepMin' b z i) (r, h) (in_rep_min w) = within_nowhere z h w
  within_nowhere (RepMax' b z i) (r, h) (here k) = r (turn k)
  within_nowhere (RepMax' b z i) (r, h) (in_rep_max w) = within_nowhere z h w
  within_nowhere (RepMinMax' b z i j) (r, h) (here k) = r (turn k)
  within_nowhere (RepMinMax' b z i j) (r, h) (in_rep_min_max w) = within_nowhere z h w
  within_nowhere (Push' b z) (r, h) (here k) = r (turn k)
  within_nowhere (Push' b z) (r, h) (in_push w) = within_nowhere z h w
  within_nowhere (NodeTag' b z u) (r, h) (here k) = r (turn k)
  within_nowhere (NodeTag' b z u) (r, h) (in_tag w) = within_nowhere z h w
  within_nowhere (Seq' b z c v) (r, f, h) (here k) = r (turn k)
  within_nowhere (Seq' b z c v) (r, f, h) (in_seq_left w) = within_nowhere z f w
  within_nowhere (Seq' b z c v) (r, f, h) (in_seq_right w) = within_nowhere v h w
  within_nowhere (Choice' b z c v) (r, f, h) (here k) = r (turn k)
  within_nowhere (Choice' b z c v) (r, f, h) (in_choice_left w) = within_nowhere z f w
  within_nowhere (Choice' b z c v) (r, f, h) (in_choice_right w) = within_nowhere v h w

  pub same : (x : Expr) → HasNoTurn (expression_of x) → {b : Expression} → Many (SkipsUntil g y) (expression_of x) b → b ≡ expression_of x
  same x h no_step = refl
  same x h (one_step w m) = absurd (within_nowhere x h w)

  pub none_to_do : (x : Expr) → HasNoTurn (expression_of x) → IsDone (SkipsUntil g y) (expression_of x) (expression_of x)
  none_to_do x h = record { reached = no_step; nowhere = nowhere x h }

-- what does nothing anywhere takes no step
nothing_within : {R : Expression → Expression → Type 0} → ((a b : Expression) → R a b → ⊥) → {a b : Expression} → Within R a b → ⊥
nothing_within n (here k) = n _ _ k
nothing_within n (in_pos_pred w) = nothing_within n w
nothing_within n (in_neg_pred w) = nothing_within n w
nothing_within n (in_seq_left w) = nothing_within n w
nothing_within n (in_seq_right w) = nothing_within n w
nothing_within n (in_choice_left w) = nothing_within n w
nothing_within n (in_choice_right w) = nothing_within n w
nothing_within n (in_opt w) = nothing_within n w
nothing_within n (in_rep w) = nothing_within n w
nothing_within n (in_rep_once w) = nothing_within n w
nothing_within n (in_rep_exact w) = nothing_within n w
nothing_within n (in_rep_min w) = nothing_within n w
nothing_within n (in_rep_max w) = nothing_within n w
nothing_within n (in_rep_min_max w) = nothing_within n w
nothing_within n (in_push w) = nothing_within n w
nothing_within n (in_tag w) = nothing_within n w
nothing_within n (in_restore w) = nothing_within n w

unmoved : {R : Expression → Expression → Type 0} → ((a b : Expression) → R a b → ⊥) → {a b : Expression} → Many R a b → b ≡ a
unmoved n no_step = refl
unmoved n (one_step w m) = absurd (nothing_within n w)

in_other : (g : Grammar) (y : code.RuleType) → (y ≡ is.Atomic → ⊥) → (a b : Expression) → SkipsUntil g (rule_type_of y) a b → ⊥
in_other g is.Normal n a b k = elim k [ ]
in_other g is.Silent n a b k = elim k [ ]
in_other g is.Atomic n a b k = n refl
in_other g is.CompoundAtomic n a b k = elim k [ ]
in_other g is.NonAtomic n a b k = elim k [ ]

over_other : (g h : Grammar) (y : code.RuleType) (a b : Expression) → (y ≡ is.Atomic → ⊥) → IsDone (SkipsUntil h (rule_type_of y)) a b → IsDone (SkipsUntil g (rule_type_of y)) a b
over_other g h y a b n d = subst (IsDone (SkipsUntil g (rule_type_of y)) a) (sym (unmoved (in_other h y n) d.reached)) (nothing_done g y a n)

-- where nothing is to be looked up, it is done over every grammar
pub over_any : (g h : Grammar) (y : code.RuleType) (x : Expr) (b : Expression) → (rule_type_of y ≡ Atomic → HasNoTurn (expression_of x)) → IsDone (SkipsUntil h (rule_type_of y)) (expression_of x) b
    → IsDone (SkipsUntil g (rule_type_of y)) (expression_of x) b
over_any g h is.Atomic x b f d = subst (IsDone (SkipsUntil g Atomic) (expression_of x)) (sym (same h Atomic x (f refl) d.reached)) (none_to_do g Atomic x (f refl))
over_any g h is.Normal x b f d = over_other g h is.Normal (expression_of x) b (λ k. cc) d
over_any g h is.Silent x b f d = over_other g h is.Silent (expression_of x) b (λ k. cc) d
over_any g h is.CompoundAtomic x b f d = over_other g h is.CompoundAtomic (expression_of x) b (λ k. cc) d
over_any g h is.NonAtomic x b f d = over_other g h is.NonAtomic (expression_of x) b (λ k. cc) d

-- what suffices for rules suffices for the first and for the others
module _ {S : Type 0} (m : HashMap (String Global) Expr S) (g : Grammar) (r : Rule) (rs : Grammar) where
  pub for_first : SufficeFor m g (r ∷ rs) → SufficeFor m g (r ∷ [])
  for_first (inl h) = inl h
  for_first (inr (h, n)) = inr (h, (n.0, tt))

  pub for_others : SufficeFor m g (r ∷ rs) → SufficeFor m g rs
  for_others (inl h) = inl h
  for_others (inr (h, n)) = inr (h, n.1)

-- where nothing is done at a node
pub no_run : (H : Grammar → Type 0) (a : Expression) (t : Bool) → OnTrue t (IsTurn a → ⊥) → OnTrue t ((g : Grammar) → H g → SkippedHere g a a)
no_run H a true n = λ g h. stays (λ q s. n (turn s))
no_run H a false n = tt

-- an expression that is no such thing, by what it has
pub no_rep : (x : Expr) → ((b : Boxed) → x ≡ form.Rep b → ⊥) → IsTurn (expression_of x) → ⊥
no_rep (Rep' p x) n t = n _ refl
no_rep _ n t = t

pub no_seq_inside : (x : Expr) → ((a b : Boxed) → x ≡ form.Seq a b → ⊥) → IsTurn (e.Rep (expression_of x)) → ⊥
no_seq_inside (Seq' p x q y) n t = n _ _ refl
no_seq_inside _ n t = t

pub no_predicate_inside : (x y : Expr) → ((b : Boxed) → x ≡ form.NegPred b → ⊥) → IsTurn (e.Rep (e.Seq (expression_of x) (expression_of y))) → ⊥
no_predicate_inside (NegPred' p x) y n t = n _ refl
no_predicate_inside _ y n t = t

-- rules that are looked through one by one
pub one_more_free : (g : Grammar) (r : Rule) → HaveNoTurns g → (r.type_of ≡ Atomic → HasNoTurn r.body) → HaveNoTurns (g ++ r ∷ [])
one_more_free [] r h f = (f, tt)
one_more_free (q ∷ g) r h f = (h.0, one_more_free g r h.1 f)

pub free_if : (Q T : Type 0) (r : Result Bool AllocError) → IfOk r (λ t. OnTrue t T) → IfOk r (λ t. OnTrue t (Q → T))
free_if Q T (Ok true) h = λ _. h
free_if Q T (Ok false) h = tt
free_if Q T (Err x) h = h

pub is_atomic : (y : code.RuleType) → rule_type_of y ≡ Atomic → y ≡ is.Atomic
is_atomic is.Atomic h = refl
is_atomic is.Normal h = cc
is_atomic is.Silent h = cc
is_atomic is.CompoundAtomic h = cc
is_atomic is.NonAtomic h = cc

-- so there is nothing to do
pub nothing_to_do : (g : Grammar) (y : code.RuleType) (x : Expr) → (rule_type_of y ≡ Atomic → HasNoTurn (expression_of x)) → IsDone (SkipsUntil g (rule_type_of y)) (expression_of x) (expression_of x)
nothing_to_do g is.Atomic x f = none_to_do g Atomic x (f refl)
nothing_to_do g is.Normal x f = nothing_done g is.Normal (expression_of x) (λ k. cc)
nothing_to_do g is.Silent x f = nothing_done g is.Silent (expression_of x) (λ k. cc)
nothing_to_do g is.CompoundAtomic x f = nothing_done g is.CompoundAtomic (expression_of x) (λ k. cc)
nothing_to_do g is.NonAtomic x f = nothing_done g is.NonAtomic (expression_of x) (λ k. cc)
