-- Rules that are found by name among wrappers and the rules that call them.
use Rattle.std.proofs.Common.{◌≡◌, ◌<◌, ◌+◌, ◌^◌, refl, sym, ◌∙◌, ap, subst, ℕ, suc, [], ◌∷◌, ◌++◌, Bool, true, false, Option, Some, None, if◌then◌else◌, bytes_eq, length, arith}
use Rattle.std.specs.List.{AllByRecursion}
use Rattle.std.proofs.lemmas.Slice.Eq.{bytes_eq-Decides}
use Rattle.base_language.specs.Language.Text.{Text}
use Rattle.base_language.specs.Language.Expression.{Grammar, Rule, rule_of, or_else}
use Rattle.matcher_support.specs.Names.{tag_in, wrapper_name}
use Rattle.matcher_support.specs.Spliced.{HasNoMark}
use Rattle.matcher_support.proofs.Naming.{wrapper_tag, same_number, differ, differ_by_tag}
use Rattle.matcher_support.proofs.Made.{Numbered, Knows}

or_none : (o : Option Rule) → o ≡ or_else o None
or_none (Some r) = refl
or_none None = refl

or_assoc : (o p q : Option Rule) → or_else (or_else o p) q ≡ or_else o (or_else p q)
or_assoc (Some r) p q = refl
or_assoc None p q = refl

pub rule_of_both : (as' bs : Grammar) (n : Text) → rule_of (as' ++ bs) n ≡ or_else (rule_of bs n) (rule_of as' n)
rule_of_both [] bs n = or_none (rule_of bs n)
rule_of_both (r ∷ as') bs n =
    ap (λ o. or_else o (if bytes_eq r.name n then Some r else None)) (rule_of_both as' bs n)
    ∙ or_assoc (rule_of bs n) (rule_of as' n) (if bytes_eq r.name n then Some r else None)

-- no rule has the name of a wrapper
pub absent : (rs : Grammar) (n t : Text) → AllByRecursion HasNoMark rs → tag_in n ≡ Some t → rule_of rs n ≡ None
absent [] n t a h = refl
absent (r ∷ rs) n t a h = rw (absent rs n t a.1 h, differ_by_tag r.name n t a.0 h) refl

-- no wrapper has the name of a rule
pub absent_wrapper : (k : ℕ) (ws : Grammar) (n : Text) → Numbered k ws → k + length ws < 2 ^ 64 → tag_in n ≡ None → rule_of ws n ≡ None
absent_wrapper k [] n a b h = refl
absent_wrapper k (r ∷ ws) n a b h =
    let t = a.0.0 in
    let i : k < 2 ^ 64 = omega (arith, b) in
    let c : suc k + length ws < 2 ^ 64 = omega (arith, b) in
    let d = differ r.name n (λ e.
    let x : Some t ≡ None = sym (wrapper_tag k t i) ∙ (ap tag_in (sym a.0.1 ∙ e) ∙ h) in cc) in
    rw (absent_wrapper (suc k) ws n a.1 c h, d) refl

-- no wrapper has an earlier number
fresh : (j k : ℕ) (ws : Grammar) (t : Text) → Numbered k ws → j < k → k + length ws < 2 ^ 64 → rule_of ws (wrapper_name j t) ≡ None
fresh j k [] t a l b = refl
fresh j k (r ∷ ws) t a l b =
    let i : k < 2 ^ 64 = omega (arith, b) in
    let o : j < 2 ^ 64 = omega (arith, b) in
    let c : suc k + length ws < 2 ^ 64 = omega (arith, b) in
    let m : j < suc k = omega arith in
    let d = differ r.name (wrapper_name j t) (λ e.
    let x : k ≡ j = same_number k j a.0.0 t i o (sym a.0.1 ∙ e) in absurd (omega (arith, x))) in
    rw (fresh j (suc k) ws t a.1 m c, d) refl

knows_more : (r : Rule) (h ws : Grammar) → Knows h ws → Knows (r ∷ h) ws
knows_more r h [] k = tt
knows_more r h (q ∷ ws) k = (rw k.0 refl, knows_more r h ws k.1)

pub own : (k : ℕ) (ws : Grammar) → Numbered k ws → k + length ws < 2 ^ 64 → Knows ws ws
own k [] a b = tt
own k (r ∷ ws) a b =
    let c : suc k + length ws < 2 ^ 64 = omega (arith, b) in
    let l : k < suc k = omega arith in
    let f : rule_of ws r.name ≡ None = subst (λ n. rule_of ws n ≡ None) (sym a.0.1) (fresh k (suc k) ws a.0.0 a.1 l c) in
    let s = (bytes_eq-Decides r.name r.name).1 refl in
    (rw (f, s) refl, knows_more r ws ws (own (suc k) ws a.1 c))

pub knows_before : (k : ℕ) (h ps ws : Grammar) → ((n t : Text) → tag_in n ≡ Some t → rule_of ps n ≡ None) → Numbered k ws → k + length ws < 2 ^ 64
    → Knows h ws → Knows (h ++ ps) ws
knows_before k h ps [] f a b i = tt
knows_before k h ps (r ∷ ws) f a b i =
    let j : k < 2 ^ 64 = omega (arith, b) in
    let c : suc k + length ws < 2 ^ 64 = omega (arith, b) in
    let t = a.0.0 in
    let m : tag_in r.name ≡ Some t = ap tag_in a.0.1 ∙ wrapper_tag k t j in
    (rule_of_both h ps r.name ∙ rw (f r.name t m) i.0, knows_before (suc k) h ps ws f a.1 c i.1)

-- a rule that is found has no name of a wrapper
pub unmarked : (rs : Grammar) (n : Text) (r : Rule) → AllByRecursion HasNoMark rs → rule_of rs n ≡ Some r → tag_in r.name ≡ None
unmarked [] n r a e = cc
unmarked (q ∷ rs) n r a e = go (λ i. unmarked rs n r a.1 i) (rule_of rs n) refl (bytes_eq q.name n) refl
  where
    go : (rule_of rs n ≡ Some r → tag_in r.name ≡ None) → (o : Option Rule) → rule_of rs n ≡ o → (c : Bool) → bytes_eq q.name n ≡ c → tag_in r.name ≡ None
    go f (Some s) i c j =
        let k : Some s ≡ Some r = rw i at e in f (i ∙ k)
    go f None i true j =
        let k : Some q ≡ Some r = rw (i, j) at e in
        let l : q ≡ r = cc in subst (λ z. tag_in z.name ≡ None) l a.0
    go f None i false j = let k : None ≡ Some r = rw (i, j) at e in cc
