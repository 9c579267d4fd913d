-- Expressions whose tags are calls of wrappers, as a relation.
use Rattle.std.proofs.Common.{◌≡◌, ℕ, zero, suc, ◌-◌, min, List, [], ◌∷◌, ◌++◌, ◌||◌, Option, Some, None, false, bytes_eq, ℤ, replicate}
use Rattle.base_language.specs.Language.Text.{Text}
use Rattle.base_language.specs.Language.Expression.{Grammar, Expression, Str, Insens, Range, Ident, PeekSlice, PosPred, NegPred, Seq, Choice, Opt, Rep, RepOnce, RepExact, RepMin, RepMax, RepMinMax, Skip, Push, PushLiteral, NodeTag, RestoreOnErr, rule_of, whitespace, comment}
use Rattle.base_language.specs.Language.State.{Mode, IsRuleMode}
use Rattle.base_language.specs.Language.Meaning.{Task, Run, Turns, Skipping, in_sequence, once_or_more, exactly, at_least, at_most, from_to, skipped}
use Rattle.matcher_support.specs.Names.{tag_in}
use Rattle.matcher_support.specs.Wrapped.{wrapper}

-- the second is the first with calls of rules of g for its tags, if it runs in a mode
pub data Wraps (g : Grammar) (m : Mode) : Expression → Expression → Type 0 where
  str : {t : Text} → Wraps g m (Str t) (Str t)
  insens : {t : Text} → Wraps g m (Insens t) (Insens t)
  range : {t u : Text} → Wraps g m (Range t u) (Range t u)
  ident : {n : Text} → IsRuleMode m → Wraps g m (Ident n) (Ident n)
  skipped_name : {n : Text} → tag_in n ≡ None → Wraps g m (Ident n) (Ident n)
  slice : {i : ℤ} {j : Option ℤ} → Wraps g m (PeekSlice i j) (PeekSlice i j)
  pos_pred : {a b : Expression} → Wraps g m a b → Wraps g m (PosPred a) (PosPred b)
  neg_pred : {a b : Expression} → Wraps g m a b → Wraps g m (NegPred a) (NegPred b)
  seq : {a b c d : Expression} → Wraps g m a b → Wraps g m c d → Wraps g m (Seq a c) (Seq b d)
  choice : {a b c d : Expression} → Wraps g m a b → Wraps g m c d → Wraps g m (Choice a c) (Choice b d)
  opt : {a b : Expression} → Wraps g m a b → Wraps g m (Opt a) (Opt b)
  rep : {a b : Expression} → Wraps g m a b → Wraps g m (Rep a) (Rep b)
  rep_once : {a b : Expression} → Wraps g m a b → Wraps g m (RepOnce a) (RepOnce b)
  rep_exact : {a b : Expression} {i : ℕ} → Wraps g m a b → Wraps g m (RepExact a i) (RepExact b i)
  rep_min : {a b : Expression} {i : ℕ} → Wraps g m a b → Wraps g m (RepMin a i) (RepMin b i)
  rep_max : {a b : Expression} {i : ℕ} → Wraps g m a b → Wraps g m (RepMax a i) (RepMax b i)
  rep_min_max : {a b : Expression} {i j : ℕ} → Wraps g m a b → Wraps g m (RepMinMax a i j) (RepMinMax b i j)
  skip : {ts : List Text} → Wraps g m (Skip ts) (Skip ts)
  push : {a b : Expression} → Wraps g m a b → Wraps g m (Push a) (Push b)
  push_literal : {t : Text} → Wraps g m (PushLiteral t) (PushLiteral t)
  tag : {a b : Expression} {t n : Text} → IsRuleMode m → rule_of g n ≡ Some (wrapper n b) → tag_in n ≡ Some t
      → (bytes_eq n whitespace || bytes_eq n comment) ≡ false → Wraps g m a b → Wraps g m (NodeTag a t) (Ident n)
  restore : {a b : Expression} → Wraps g m a b → Wraps g m (RestoreOnErr a) (RestoreOnErr b)

-- the same of tasks
pub data WrapsTask (g : Grammar) : Task → Task → Type 0 where
  run : {m : Mode} {a b : Expression} → Wraps g m a b → WrapsTask g (Run m a) (Run m b)
  turns : {m : Mode} {a b : Expression} → Wraps g m a b → WrapsTask g (Turns m a) (Turns m b)
  skipping : {m : Mode} → WrapsTask g (Skipping m) (Skipping m)

module _ (g : Grammar) (m : Mode) where
  -- one by one
  data Each : List Expression → List Expression → Type 0 where
    none : Each [] []
    also : {a b : Expression} {as' bs : List Expression} → Wraps g m a b → Each as' bs → Each (a ∷ as') (b ∷ bs)

  sequence : {as' bs : List Expression} → Each as' bs → Wraps g m (in_sequence as') (in_sequence bs)
  sequence none = str
  sequence (also w none) = w
  sequence (also w (also v vs)) = seq w (sequence (also v vs))

  copies : (n : ℕ) {a b : Expression} → Wraps g m a b → Each (replicate n a) (replicate n b)
  copies zero w = none
  copies (suc n) w = also w (copies n w)

  both : {as' bs cs ds : List Expression} → Each as' bs → Each cs ds → Each (as' ++ cs) (bs ++ ds)
  both none k = k
  both (also w ws) k = also w (both ws k)

  pub once : {a b : Expression} → Wraps g m a b → Wraps g m (once_or_more a) (once_or_more b)
  once w = seq w (rep w)

  pub exact : (n : ℕ) {a b : Expression} → Wraps g m a b → Wraps g m (exactly a n) (exactly b n)
  exact n w = sequence (copies n w)

  pub least : (n : ℕ) {a b : Expression} → Wraps g m a b → Wraps g m (at_least a n) (at_least b n)
  least n w = sequence (both (copies n w) (also (rep w) none))

  pub most : (n : ℕ) {a b : Expression} → Wraps g m a b → Wraps g m (at_most a n) (at_most b n)
  most n w = sequence (copies n (opt w))

  pub within : (i j : ℕ) {a b : Expression} → Wraps g m a b → Wraps g m (from_to a i j) (from_to b i j)
  within i j w = sequence (both (copies (min i j) w) (copies (j - i) (opt w)))

-- the implicit skipping has no tags
pub skipping_wraps : (g : Grammar) (m : Mode) → tag_in whitespace ≡ None → tag_in comment ≡ None → Wraps g m skipped skipped
skipping_wraps g m w c =
    let ws = rep (skipped_name w) in
    seq ws (rep (seq (skipped_name c) ws))
