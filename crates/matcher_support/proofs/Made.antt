-- What wrapping makes: expressions whose tags are calls of the wrappers made.
use Rattle.std.proofs.Common.{◌≡◌, ◌<◌, ◌+◌, ◌^◌, refl, sym, ◌∙◌, ap, subst, ℕ, suc, [], ◌∷◌, ◌++◌, Bool, true, false, Option, Some, None, bytes_eq, length, append_assoc, length-append, arith}
use Rattle.std.proofs.lemmas.List.{append-nil}
use Rattle.base_language.specs.Language.Text.{Text}
use Rattle.base_language.specs.Language.Expression.{Grammar, Rule, Expression, Str, Insens, Range, Ident, PeekSlice, PosPred, NegPred, Seq, Choice, Opt, Rep, RepOnce, RepExact, RepMin, RepMax, RepMinMax, Skip, Push, PushLiteral, NodeTag, RestoreOnErr, rule_of}
use Rattle.base_language.specs.Language.State.{Mode, IsRuleMode}
use Rattle.matcher_support.specs.Names.{wrapper_name}
use Rattle.matcher_support.specs.Wrapped.{wrapper, wrapped, wrapped_rules, with_wrapper}
use Rattle.matcher_support.proofs.Naming.{wrapper_tag, not_blank}
use Rattle.matcher_support.proofs.Wraps.{Wraps}
use Rattle.matcher_support.proofs.Wraps as w

-- the rules have the names of wrappers, with numbers from k on
abbrev pub Numbered : ℕ → Grammar → Type 0
Numbered k [] = Unit {0}
Numbered k (r ∷ rs) = ((t : Text) × (r.name ≡ wrapper_name k t)) × Numbered (suc k) rs

-- h calls each of the rules by its name
abbrev pub Knows : Grammar → Grammar → Type 0
Knows h [] = Unit {0}
Knows h (r ∷ rs) = (rule_of h r.name ≡ Some r) × Knows h rs

along : (j k : ℕ) (rs : Grammar) → j ≡ k → Numbered j rs → Numbered k rs
along j k rs e n = subst (λ i. Numbered i rs) e n

numbered_both : (k : ℕ) (as' bs : Grammar) → Numbered k as' → Numbered (k + length as') bs → Numbered k (as' ++ bs)
numbered_both k [] bs n m = along (k + 0) k bs (omega arith) m
numbered_both k (r ∷ as') bs n m =
    (n.0, numbered_both (suc k) as' bs n.1 (along (k + suc (length as')) (suc k + length as') bs (omega arith) m))

knows_first : (h as' bs : Grammar) → Knows h (as' ++ bs) → Knows h as'
knows_first h [] bs k = tt
knows_first h (r ∷ as') bs k = (k.0, knows_first h as' bs k.1)

knows_second : (h as' bs : Grammar) → Knows h (as' ++ bs) → Knows h bs
knows_second h [] bs k = k
knows_second h (r ∷ as') bs k = knows_second h as' bs k.1

-- what wrapping an expression makes, after the wrappers ws
pub record Made (e : Expression) (ws : Grammar) (x : Expression × Grammar) : Type 0 where
  pub more : Grammar
  pub split : x.1 ≡ ws ++ more
  pub numbered : Numbered (length ws) more
  pub wraps : (h : Grammar) (m : Mode) → IsRuleMode m → length x.1 < 2 ^ 64 → Knows h more → Wraps h m e x.0

leaf : (e : Expression) (ws : Grammar) → ((h : Grammar) (m : Mode) → IsRuleMode m → Wraps h m e e) → Made e ws (e, ws)
leaf e ws f = record { more = []; split = sym (append-nil ws); numbered = tt; wraps = λ h m p b k. f h m p }

one : {e : Expression} {ws : Grammar} {x : Expression × Grammar} (over : Expression → Expression)
    → ((h : Grammar) (m : Mode) → Wraps h m e x.0 → Wraps h m (over e) (over x.0)) → Made e ws x → Made (over e) ws (over x.0, x.1)
one over f y = record { more = y.more; split = y.split; numbered = y.numbered; wraps = λ h m p b k. f h m (y.wraps h m p b k) }

two : {c d : Expression} {ws : Grammar} {x z : Expression × Grammar} (join : Expression → Expression → Expression)
    → ((h : Grammar) (m : Mode) → Wraps h m c x.0 → Wraps h m d z.0 → Wraps h m (join c d) (join x.0 z.0))
    → Made c ws x → Made d x.1 z → Made (join c d) ws (join x.0 z.0, z.1)
two {ws = ws} {x = x} {z = z} join f y v =
    let l : length x.1 ≡ length ws + length y.more = ap length y.split ∙ length-append ws y.more in
    let k : length z.1 ≡ length x.1 + length v.more = ap length v.split ∙ length-append x.1 v.more in
    record {
      more = y.more ++ v.more;
      split = v.split ∙ (ap (λ u. u ++ v.more) y.split ∙ append_assoc ws y.more v.more);
      numbered = numbered_both (length ws) y.more v.more y.numbered (along _ _ v.more l v.numbered);
      wraps = λ h m p b q. f h m
          (y.wraps h m p (omega (arith, b, k)) (knows_first h y.more v.more q))
          (v.wraps h m p b (knows_second h y.more v.more q));
    }

named : {e : Expression} {ws : Grammar} {x : Expression × Grammar} (t : Text) → Made e ws x → Made (NodeTag e t) ws (with_wrapper t x)
named {ws = ws} {x = x} t y =
    let n = wrapper_name (length x.1) t in
    let r = wrapper n x.0 in
    let l : length x.1 ≡ length ws + length y.more = ap length y.split ∙ length-append ws y.more in
    let k : length (x.1 ++ r ∷ []) ≡ length x.1 + 1 = length-append x.1 (r ∷ []) in
    record {
      more = y.more ++ r ∷ [];
      split = ap (λ u. u ++ r ∷ []) y.split ∙ append_assoc ws y.more (r ∷ []);
      numbered = numbered_both (length ws) y.more (r ∷ []) y.numbered (along _ _ (r ∷ []) l ((t, refl), tt));
      wraps = λ h m p b q.
          let c : length x.1 < 2 ^ 64 = omega (arith, b, k) in
          let i = wrapper_tag (length x.1) t c in
          w.tag p (knows_second h y.more (r ∷ []) q).0 i (not_blank n t i) (y.wraps h m p c (knows_first h y.more (r ∷ []) q));
    }

pub made : (e : Expression) (ws : Grammar) → Made e ws (wrapped e ws)
made (Str t) ws = leaf (Str t) ws (λ h m p. w.str)
made (Insens t) ws = leaf (Insens t) ws (λ h m p. w.insens)
made (Range t u) ws = leaf (Range t u) ws (λ h m p. w.range)
made (Ident n) ws = leaf (Ident n) ws (λ h m p. w.ident p)
made (PeekSlice i j) ws = leaf (PeekSlice i j) ws (λ h m p. w.slice)
made (PosPred e) ws = one PosPred (λ h m x. w.pos_pred x) (made e ws)
made (NegPred e) ws = one NegPred (λ h m x. w.neg_pred x) (made e ws)
made (Seq a b) ws = two Seq (λ h m x y. w.seq x y) (made a ws) (made b (wrapped a ws).1)
made (Choice a b) ws = two Choice (λ h m x y. w.choice x y) (made a ws) (made b (wrapped a ws).1)
made (Opt e) ws = one Opt (λ h m x. w.opt x) (made e ws)
made (Rep e) ws = one Rep (λ h m x. w.rep x) (made e ws)
made (RepOnce e) ws = one RepOnce (λ h m x. w.rep_once x) (made e ws)
made (RepExact e i) ws = one (λ x. RepExact x i) (λ h m x. w.rep_exact x) (made e ws)
made (RepMin e i) ws = one (λ x. RepMin x i) (λ h m x. w.rep_min x) (made e ws)
made (RepMax e i) ws = one (λ x. RepMax x i) (λ h m x. w.rep_max x) (made e ws)
made (RepMinMax e i j) ws = one (λ x. RepMinMax x i j) (λ h m x. w.rep_min_max x) (made e ws)
made (Skip ts) ws = leaf (Skip ts) ws (λ h m p. w.skip)
made (Push e) ws = one Push (λ h m x. w.push x) (made e ws)
made (PushLiteral t) ws = leaf (PushLiteral t) ws (λ h m p. w.push_literal)
made (NodeTag e t) ws = named t (made e ws)
made (RestoreOnErr e) ws = one RestoreOnErr (λ h m x. w.restore x) (made e ws)

-- the like of a rule among wrapped rules
pub record Like (rs : Grammar) (h : Grammar) (n : Text) (r : Rule) : Type 0 where
  pub body : Expression
  pub found : rule_of rs n ≡ Some (record r { body = body })
  pub wraps : (m : Mode) → IsRuleMode m → Wraps h m r.body body

-- what wrapping rules makes
pub record MadeRules (rs ws : Grammar) (x : Grammar × Grammar) : Type 0 where
  pub more : Grammar
  pub split : x.1 ≡ ws ++ more
  pub numbered : Numbered (length ws) more
  pub found : (h : Grammar) (n : Text) (r : Rule) → length x.1 < 2 ^ 64 → Knows h more → rule_of rs n ≡ Some r → Like x.0 h n r
  pub none : (n : Text) → rule_of rs n ≡ None → rule_of x.0 n ≡ None

same_some : {x y : Rule} → Some x ≡ Some y → x ≡ y
same_some e = cc

module _ (rs ys h : Grammar) (n : Text) (q : Rule) (b : Expression) where
  found_next : (r : Rule) → ((s : Rule) → rule_of rs n ≡ Some s → Like ys h n s) → (rule_of rs n ≡ None → rule_of ys n ≡ None)
      → ((m : Mode) → IsRuleMode m → Wraps h m q.body b) → rule_of (q ∷ rs) n ≡ Some r
      → Like (record q { body = b } ∷ ys) h n r
  found_next r f g v e = go (rule_of rs n) refl (bytes_eq q.name n) refl
    where
      go : (o : Option Rule) → rule_of rs n ≡ o → (c : Bool) → bytes_eq q.name n ≡ c → Like (record q { body = b } ∷ ys) h n r
      go (Some s) i c j =
          let k : Some s ≡ Some r = rw i at e in
          let x = f r (i ∙ k) in
          record { body = x.body; found = rw x.found refl; wraps = x.wraps }
      go None i true j =
          let k : Some q ≡ Some r = rw (i, j) at e in
          subst (λ z. Like (record q { body = b } ∷ ys) h n z) (same_some k)
          (record { body = b; found = rw (g i, j) refl; wraps = v })
      go None i false j = let k : None ≡ Some r = rw (i, j) at e in cc

  none_next : (rule_of rs n ≡ None → rule_of ys n ≡ None) → rule_of (q ∷ rs) n ≡ None → rule_of (record q { body = b } ∷ ys) n ≡ None
  none_next g e = go (rule_of rs n) refl (bytes_eq q.name n) refl
    where
      go : (o : Option Rule) → rule_of rs n ≡ o → (c : Bool) → bytes_eq q.name n ≡ c → rule_of (record q { body = b } ∷ ys) n ≡ None
      go (Some s) i c j = let k : Some s ≡ None = rw i at e in cc
      go None i true j = let k : Some q ≡ None = rw (i, j) at e in cc
      go None i false j = rw (g i, j) refl

pub made_rules : (rs ws : Grammar) → MadeRules rs ws (wrapped_rules rs ws)
made_rules [] ws = record {
  more = [];
  split = sym (append-nil ws);
  numbered = tt;
  found = λ h n r b k e. cc;
  none = λ n e. e;
}
made_rules (q ∷ rs) ws =
    let x = wrapped q.body ws in
    let y = made q.body ws in
    let z = made_rules rs x.1 in
    let l : length x.1 ≡ length ws + length y.more = ap length y.split ∙ length-append ws y.more in
    let k : length (wrapped_rules rs x.1).1 ≡ length x.1 + length z.more = ap length z.split ∙ length-append x.1 z.more in
    record {
      more = y.more ++ z.more;
      split = z.split ∙ (ap (λ u. u ++ z.more) y.split ∙ append_assoc ws y.more z.more);
      numbered = numbered_both (length ws) y.more z.more y.numbered (along _ _ z.more l z.numbered);
      found = λ h n r b t e.
          found_next rs (wrapped_rules rs x.1).0 h n q x.0 r
          (λ s i. z.found h n s b (knows_second h y.more z.more t) i) (z.none n)
          (λ m p. y.wraps h m p (omega (arith, b, k)) (knows_first h y.more z.more t)) e;
      none = λ n e. none_next rs (wrapped_rules rs x.1).0 [] n q x.0 (z.none n) e;
    }
