-- A condition on what stands in an expression: over the whole of it, and kept by a change at a place.
use Rattle.std.proofs.Common.{ℕ, ℤ, List, [], Option}
use Rattle.base_language.specs.Language.Text.{Text}
use Rattle.base_language.specs.Language.Expression.{Expression, Str, Insens, Range, Ident, PeekSlice, PosPred, NegPred, Seq, Choice, Opt, Rep, RepOnce, RepExact, RepMin, RepMax, RepMinMax, Skip, Push, RestoreOnErr, Part, whole, of_pos_pred, of_neg_pred, of_seq_left, of_seq_right, of_choice_left, of_choice_right, of_opt, of_rep, of_rep_once, of_rep_exact, of_rep_min, of_rep_max, of_rep_min_max, of_push, of_restore, PushLiteral, NodeTag, of_tag}
use Rattle.base_language.specs.Language.Meaning.{in_sequence}
use Rattle.base_language.specs.Rewritings.Rewriting.{Within, here, in_pos_pred, in_neg_pred, in_seq_left, in_seq_right, in_choice_left, in_choice_right, in_opt, in_rep, in_rep_once, in_rep_exact, in_rep_min, in_rep_max, in_rep_min_max, in_push, in_restore, Many, no_step, one_step, in_tag}
use Rattle.base_language.proofs.Moving.{Each', in_all}

-- what is asked of the own texts and numbers of each form, and of what `*`, `+` and `{n,}` repeat
pub record Condition : Type 1 where
  pub literal : Text → Type 0
  pub insensitive : Text → Type 0
  pub range : Text → Text → Type 0
  pub name : Text → Type 0
  pub slice : ℤ → Option ℤ → Type 0
  pub strings : List Text → Type 0
  pub pushed : Text → Type 0
  pub tagged : Text → Type 0
  pub repeated : Expression → Type 0
  pub exact : ℕ → Type 0
  pub least : ℕ → Type 0
  pub most : ℕ → Type 0
  pub bounds : ℕ → ℕ → Type 0

-- nothing is asked
abbrev pub nothing : Condition
nothing = record {
  literal = λ t. Unit {0};
  insensitive = λ t. Unit {0};
  range = λ t u. Unit {0};
  name = λ n. Unit {0};
  slice = λ i j. Unit {0};
  strings = λ ts. Unit {0};
  pushed = λ t. Unit {0};
  tagged = λ t. Unit {0};
  repeated = λ e. Unit {0};
  exact = λ i. Unit {0};
  least = λ i. Unit {0};
  most = λ i. Unit {0};
  bounds = λ i j. Unit {0};
}

-- it holds of the expression itself
abbrev pub HoldsHere : Condition → Expression → Type 0
HoldsHere c (Str t) = c.literal t
HoldsHere c (Insens t) = c.insensitive t
HoldsHere c (Range t u) = c.range t u
HoldsHere c (Ident n) = c.name n
HoldsHere c (PeekSlice i j) = c.slice i j
HoldsHere c (Rep e) = c.repeated e
HoldsHere c (RepOnce e) = c.repeated e
HoldsHere c (RepExact e i) = c.exact i
HoldsHere c (RepMin e i) = c.repeated e × c.least i
HoldsHere c (RepMax e i) = c.most i
HoldsHere c (RepMinMax e i j) = c.bounds i j
HoldsHere c (Skip ts) = c.strings ts
HoldsHere c (PushLiteral t) = c.pushed t
HoldsHere c (NodeTag e t) = c.tagged t
HoldsHere c _ = Unit {0}

-- it holds of the expression and of all that stands in it
abbrev pub Everywhere : Condition → Expression → Type 0
Everywhere c (PosPred e) = Everywhere c e
Everywhere c (NegPred e) = Everywhere c e
Everywhere c (Seq a b) = Everywhere c a × Everywhere c b
Everywhere c (Choice a b) = Everywhere c a × Everywhere c b
Everywhere c (Opt e) = Everywhere c e
Everywhere c (Rep e) = c.repeated e × Everywhere c e
Everywhere c (RepOnce e) = c.repeated e × Everywhere c e
Everywhere c (RepExact e i) = c.exact i × Everywhere c e
Everywhere c (RepMin e i) = (c.repeated e × c.least i) × Everywhere c e
Everywhere c (RepMax e i) = c.most i × Everywhere c e
Everywhere c (RepMinMax e i j) = c.bounds i j × Everywhere c e
Everywhere c (Push e) = Everywhere c e
Everywhere c (NodeTag e t) = c.tagged t × Everywhere c e
Everywhere c (RestoreOnErr e) = Everywhere c e
Everywhere c (Str t) = c.literal t
Everywhere c (Insens t) = c.insensitive t
Everywhere c (Range t u) = c.range t u
Everywhere c (Ident n) = c.name n
Everywhere c (PeekSlice i j) = c.slice i j
Everywhere c (Skip ts) = c.strings ts
Everywhere c (PushLiteral t) = c.pushed t

module _ (c : Condition) where
  pub everywhere : (e : Expression) → ((p : Expression) → Part e p → HoldsHere c p) → Everywhere c e
  everywhere (PosPred e) f = everywhere e (λ p i. f p (of_pos_pred i))
  everywhere (NegPred e) f = everywhere e (λ p i. f p (of_neg_pred i))
  everywhere (Seq a b) f = (everywhere a (λ p i. f p (of_seq_left i)), everywhere b (λ p i. f p (of_seq_right i)))
  everywhere (Choice a b) f = (everywhere a (λ p i. f p (of_choice_left i)), everywhere b (λ p i. f p (of_choice_right i)))
  everywhere (Opt e) f = everywhere e (λ p i. f p (of_opt i))
  everywhere (Rep e) f = (f _ whole, everywhere e (λ p i. f p (of_rep i)))
  everywhere (RepOnce e) f = (f _ whole, everywhere e (λ p i. f p (of_rep_once i)))
  everywhere (RepExact e i) f = (f _ whole, everywhere e (λ p i. f p (of_rep_exact i)))
  everywhere (RepMin e i) f = (f _ whole, everywhere e (λ p i. f p (of_rep_min i)))
  everywhere (RepMax e i) f = (f _ whole, everywhere e (λ p i. f p (of_rep_max i)))
  everywhere (RepMinMax e i j) f = (f _ whole, everywhere e (λ p i. f p (of_rep_min_max i)))
  everywhere (Push e) f = everywhere e (λ p i. f p (of_push i))
  everywhere (NodeTag e t) f = (f _ whole, everywhere e (λ p i. f p (of_tag i)))
  everywhere (RestoreOnErr e) f = everywhere e (λ p i. f p (of_restore i))
  everywhere (Str t) f = f _ whole
  everywhere (Insens t) f = f _ whole
  everywhere (Range t u) f = f _ whole
  everywhere (Ident n) f = f _ whole
  everywhere (PeekSlice i j) f = f _ whole
  everywhere (Skip ts) f = f _ whole
  everywhere (PushLiteral t) f = f _ whole

  pub at_root : (e : Expression) → Everywhere c e → HoldsHere c e
  at_root (PosPred e) h = tt
  at_root (NegPred e) h = tt
  at_root (Seq a b) h = tt
  at_root (Choice a b) h = tt
  at_root (Opt e) h = tt
  at_root (Rep e) h = h.0
  at_root (RepOnce e) h = h.0
  at_root (RepExact e i) h = h.0
  at_root (RepMin e i) h = h.0
  at_root (RepMax e i) h = h.0
  at_root (RepMinMax e i j) h = h.0
  at_root (Push e) h = tt
  at_root (NodeTag e t) h = h.0
  at_root (RestoreOnErr e) h = tt
  at_root (Str t) h = h
  at_root (Insens t) h = h
  at_root (Range t u) h = h
  at_root (Ident n) h = h
  at_root (PeekSlice i j) h = h
  at_root (Skip ts) h = h
  at_root (PushLiteral t) h = h

  pub at_part : {e p : Expression} → Everywhere c e → Part e p → HoldsHere c p
  at_part {e} h whole = at_root e h
  at_part h (of_pos_pred i) = at_part h i
  at_part h (of_neg_pred i) = at_part h i
  at_part h (of_seq_left i) = at_part h.0 i
  at_part h (of_seq_right i) = at_part h.1 i
  at_part h (of_choice_left i) = at_part h.0 i
  at_part h (of_choice_right i) = at_part h.1 i
  at_part h (of_opt i) = at_part h i
  at_part h (of_rep i) = at_part h.1 i
  at_part h (of_rep_once i) = at_part h.1 i
  at_part h (of_rep_exact i) = at_part h.1 i
  at_part h (of_rep_min i) = at_part h.1 i
  at_part h (of_rep_max i) = at_part h.1 i
  at_part h (of_rep_min_max i) = at_part h.1 i
  at_part h (of_push i) = at_part h i
  at_part h (of_tag i) = at_part h.1 i
  at_part h (of_restore i) = at_part h i

  pub in_sequence_too : {es : List Expression} → c.literal [] → Each' (Everywhere c) es → Everywhere c (in_sequence es)
  in_sequence_too z s = in_all (Everywhere c) z (λ a b x y. (x, y)) s

-- what one condition asks the other asks too
pub weaker : (c d : Condition) → ((p : Expression) → HoldsHere c p → HoldsHere d p) → (e : Expression) → Everywhere c e → Everywhere d e
weaker c d f e h = everywhere d e (λ p i. f p (at_part c h i))

-- what is so at the root of a change is so at any place, and along changes
module _ (R : Expression → Expression → Type 0) (c : Condition)
    (root : (a b : Expression) → R a b → Everywhere c a → Everywhere c b)
    (repeated : (a b : Expression) → Within R a b → Everywhere c a → c.repeated a → c.repeated b) where
  pub kept_within : {a b : Expression} → Within R a b → Everywhere c a → Everywhere c b
  kept_within (here w) h = root _ _ w h
  kept_within (in_pos_pred w) h = kept_within w h
  kept_within (in_neg_pred w) h = kept_within w h
  kept_within (in_seq_left w) h = (kept_within w h.0, h.1)
  kept_within (in_seq_right w) h = (h.0, kept_within w h.1)
  kept_within (in_choice_left w) h = (kept_within w h.0, h.1)
  kept_within (in_choice_right w) h = (h.0, kept_within w h.1)
  kept_within (in_opt w) h = kept_within w h
  kept_within (in_rep w) h = (repeated _ _ w h.1 h.0, kept_within w h.1)
  kept_within (in_rep_once w) h = (repeated _ _ w h.1 h.0, kept_within w h.1)
  kept_within (in_rep_exact w) h = (h.0, kept_within w h.1)
  kept_within (in_rep_min w) h = ((repeated _ _ w h.1 h.0.0, h.0.1), kept_within w h.1)
  kept_within (in_rep_max w) h = (h.0, kept_within w h.1)
  kept_within (in_rep_min_max w) h = (h.0, kept_within w h.1)
  kept_within (in_push w) h = kept_within w h
  kept_within (in_tag w) h = (h.0, kept_within w h.1)
  kept_within (in_restore w) h = kept_within w h

  pub kept_along : {a b : Expression} → Many R a b → Everywhere c a → Everywhere c b
  kept_along no_step h = h
  kept_along (one_step w m) h = kept_along m (kept_within w h)
