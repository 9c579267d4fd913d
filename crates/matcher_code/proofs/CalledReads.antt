-- Where a task comes to that is a rule's: names that rules call, and those that are skipped implicitly.
use Rattle.std.proofs.Common.{◌≡◌, ◌∙◌, sym, ap, ℕ, zero, suc, ◌-◌, ◌⊎◌, inl, inr, List, [], ◌∷◌, ◌++◌, None, Some, length, arith}
use Rattle.std.specs.Prelude.{codes, min, replicate}
use Rattle.base_language.specs.Language.Text.{Text}
use Rattle.base_language.specs.Language.Expression.{Expression, Grammar, Ident, Opt, Part, Rep, Rule, comment, of_choice_left, of_choice_right, of_neg_pred, of_opt, of_pos_pred, of_push, of_rep, of_rep_exact, of_rep_max, of_rep_min, of_rep_min_max, of_rep_once, of_restore, of_seq_left, of_seq_right, of_tag, rule_of, whitespace, whole}
use Rattle.base_language.specs.Language.State.{Classes, Mode, State}
use Rattle.base_language.specs.Language.Meaning.{Run, Skipping, Task, Turns, in_sequence, skipped}
use Rattle.base_language.specs.Language.WellFormed.{InRules, IsSkipped, is_comment, is_whitespace}
use Rattle.matcher_code.specs.Begun as part
use Rattle.matcher_code.specs.Begun.{Begins, ComesTo, IsEmptyRead, here, onward}

module _ (P : Text → Type 0) where
  -- all names of an expression are such names
  Names : Expression → Type 0
  Names e = (x : Text) → Part e (Ident x) → P x

  AllNames : List Expression → Type 0
  AllNames [] = Unit {0}
  AllNames (e ∷ es) = Names e × AllNames es

  in_order : (es : List Expression) → AllNames es → Names (in_sequence es)
  unfolding Names AllNames
  in_order [] h x p = elim p [ ]
  in_order (e ∷ []) h x p = h.0 x p
  in_order (e ∷ f ∷ es) h x (of_seq_left p) = h.0 x p
  in_order (e ∷ f ∷ es) h x (of_seq_right p) = in_order (f ∷ es) h.1 x p

  copies : (e : Expression) (n : ℕ) → Names e → AllNames (replicate n e)
  unfolding AllNames
  copies e zero h = tt
  copies e (suc n) h = (h, copies e n h)

  both : (es fs : List Expression) → AllNames es → AllNames fs → AllNames (es ++ fs)
  unfolding AllNames
  both [] fs h k = k
  both (e ∷ es) fs h k = (h.0, both es fs h.1 k)

  opts : (e : Expression) → Names e → Names (Opt e)
  unfolding Names
  opts e h x (of_opt p) = h x p

  reps : (e : Expression) → Names e → Names (Rep e)
  unfolding Names
  reps e h x (of_rep p) = h x p

module _ (g : Grammar) (classes : Classes) where
  -- a rule's name, one that a rule calls, or one that is skipped
  Known : Text → Type 0
  Known x = ((r : Rule) × (rule_of g x ≡ Some r)) ⊎ (InRules g (Ident x) ⊎ IsSkipped x)

  KnownIn : Task → Type 0
  KnownIn (Run m e) = Names Known e
  KnownIn (Turns m e) = Names Known e
  KnownIn (Skipping m) = Unit {0}

  skipped_names : Names Known skipped
  unfolding Names Known
  skipped_names x (of_seq_left (of_rep whole)) = inr (inr is_whitespace)
  skipped_names x (of_seq_right (of_rep (of_seq_left whole))) = inr (inr is_comment)
  skipped_names x (of_seq_right (of_rep (of_seq_right (of_rep whole)))) = inr (inr is_whitespace)

  stays_known : {k p : Task} {s t : State} {i : ℕ} → Begins g classes k s i p t → KnownIn k → KnownIn p
  unfolding Names Known KnownIn AllNames
  stays_known (part.call {n = n} {r = r} h) k = λ x p. inr (inl (n, r, h, p))
  stays_known part.pos_pred k = λ x p. k x (of_pos_pred p)
  stays_known part.neg_pred k = λ x p. k x (of_neg_pred p)
  stays_known part.push k = λ x p. k x (of_push p)
  stays_known part.tag k = λ x p. k x (of_tag p)
  stays_known part.restore k = λ x p. k x (of_restore p)
  stays_known part.seq k = λ x p. k x (of_seq_left p)
  stays_known (part.seq_trivia d) k = tt
  stays_known (part.seq_second d f) k = λ x p. k x (of_seq_right p)
  stays_known part.left k = λ x p. k x (of_choice_left p)
  stays_known (part.right d) k = λ x p. k x (of_choice_right p)
  stays_known part.opt k = λ x p. k x (of_opt p)
  stays_known part.rep k = λ x p. k x (of_rep p)
  stays_known (part.rep_turns d) k = λ x p. k x (of_rep p)
  stays_known part.turn_trivia k = tt
  stays_known (part.turn f) k = k
  stays_known (part.more_turns f d) k = k
  stays_known (part.rep_once {e = e}) k =
      let h : Names Known e = λ x p. k x (of_rep_once p) in in_order Known (e ∷ Rep e ∷ []) (h, (reps Known e h, tt))
  stays_known (part.rep_exact {e = e} {i = i}) k =
      let h : Names Known e = λ x p. k x (of_rep_exact p) in in_order Known (replicate i e) (copies Known e i h)
  stays_known (part.rep_min {e = e} {i = i}) k =
      let h : Names Known e = λ x p. k x (of_rep_min p) in
      in_order Known (replicate i e ++ Rep e ∷ []) (both Known (replicate i e) (Rep e ∷ []) (copies Known e i h) (reps Known e h, tt))
  stays_known (part.rep_max {e = e} {i = i}) k =
      let h : Names Known e = λ x p. k x (of_rep_max p) in in_order Known (replicate i (Opt e)) (copies Known (Opt e) i (opts Known e h))
  stays_known (part.rep_min_max {e = e} {i = i} {j = j}) k =
      let h : Names Known e = λ x p. k x (of_rep_min_max p) in
      in_order Known (replicate (min i j) e ++ replicate (j - i) (Opt e))
      (both Known (replicate (min i j) e) (replicate (j - i) (Opt e)) (copies Known e (min i j) h) (copies Known (Opt e) (j - i) (opts Known e h)))
  stays_known part.skips k = skipped_names

  comes_known : {k p : Task} {s t : State} {i : ℕ} → ComesTo g classes k s i p t → KnownIn k → KnownIn p
  comes_known here k = k
  comes_known (onward b w) k = comes_known w (stays_known b k)

  not_skipped : {x : Text} → IsSkipped x → (x ≡ codes "PEEK") ⊎ (x ≡ codes "POP") → ⊥
  unfolding whitespace comment
  not_skipped is_whitespace (inl e) = omega (arith, ap length e)
  not_skipped is_whitespace (inr e) = omega (arith, ap length e)
  not_skipped is_comment (inl e) = omega (arith, ap length e)
  not_skipped is_comment (inr e) = omega (arith, ap length e)

  -- a read of the empty stack is called by a rule
  pub called : {m k : Mode} {n x : Text} {r : Rule} {s t : State} {i : ℕ} → rule_of g n ≡ Some r → ComesTo g classes (Run m (Ident n)) s i (Run k (Ident x)) t
      → IsEmptyRead g x t → InRules g (Ident x)
  unfolding Names Known KnownIn AllNames
  called {n = n} {x = x} {r = r} h w read =
      let start : Names Known (Ident n) = λ y p. only y p in
      elim (comes_known w start x whole) [
        | inl y ↦ absurd (none (sym read.free ∙ y.1))
        | inr y ↦ elim y [ inl z ↦ z | inr z ↦ absurd (not_skipped z read.reads) ]
      ]
    where
      only : (y : Text) → Part (Ident n) (Ident y) → Known y
      only y whole = inl (r, h)

      none : {q : Rule} → None ≡ Some q → ⊥
      none e = cc
