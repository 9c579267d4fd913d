-- The strings of parts that are still to be told, the last part first.
use Rattle.std.specs.declared.alloc.AllocError.{AllocError}
use Rattle.std.specs.declared.vec.Vec.{Vec}
use Rattle.std.proofs.Common.{Result, Ok, Err, IfOk, MatchOption, map, ◌≡◌, refl, sym, ◌∙◌, ap, subst, ℕ, zero, suc, ◌+◌, ◌-◌, ◌<◌, List, [], ◌∷◌, ◌++◌, Option, Some, None, append_assoc, arith, string_bytes, Global, Box, sub-one}
use Rattle.std.proofs.lemmas.List.{append-nil}
use Rattle.std.specs.HashMap.{HashMap, get_by_text}
use Rattle.std.specs.declared.string.String.{String}
use Rattle.base_language.specs.Language.Text.{Text}
use Rattle.base_language.specs.Language.Expression.{Expression, Str, Ident, Choice, Rule, Grammar, rule_of}
use Rattle.base_language.specs.Rewritings.Rewriting.{IsLeaf, Strings, one, named, more}
use Rattle.base_language.proofs.Basics.{same_some}
use Rattle.base_ast.specs.Ast.{expression_of, text_of}
use Rattle.base_ast.specs.declared.ast.Expr as code
use Rattle.base_ast.specs.declared.ast.Expr.TheVariants as is
use Rattle.base_ast.specs.declared.ast.Expr.{Expr, Choice'}
use Rattle.front_optimizer.specs.declared.strings.Part.{Part}
use Rattle.front_optimizer.specs.Bodies as within
use Rattle.front_optimizer.specs.Bodies.{HoldsBodies, StringsWithin, HasStrings, StringsOrNone}
use Rattle.front_optimizer.proofs.NamedStrings.{higher}

module _ (g : Grammar) where
  pub data Gives : List Part → List Text → Type 0 where
    no_part : Gives [] []
    and_part : {p : Part} {ps : List Part} {us vs : List Text} → Gives ps us → Strings g (expression_of p.expr.now) vs → Gives (p ∷ ps) (us ++ vs)

  regrouped : {ps : List Part} {ts us : List Text} → ts ≡ us → Gives ps ts → Gives ps us
  regrouped {ps} h d = subst (Gives ps) h d

  gives_more : {ps : List Part} {us vs : List Text} (p : Part) → Gives ps us → Strings g (expression_of p.expr.now) vs → Gives (ps ++ (p ∷ [])) (vs ++ us)
  gives_more {vs = vs} p no_part s = regrouped (sym (append-nil vs)) (and_part no_part s)
  gives_more {vs = vs} p (and_part {us = us} {vs = ws} d t) s = regrouped (append_assoc vs us ws) (and_part (gives_more p d s) t)

  pub record IsLast (ps : List Part) (p : Part) (ts : List Text) : Type 0 where
    pub first : List Text
    pub others : List Text
    pub of_part : Strings g (expression_of p.expr.now) first
    pub of_others : Gives ps others
    pub at : ts ≡ first ++ others

  gives_last : {ts : List Text} (ps : List Part) (p : Part) → Gives (ps ++ (p ∷ [])) ts → IsLast ps p ts
  gives_last [] p (and_part {vs = vs} no_part s) = record { first = vs; others = []; of_part = s; of_others = no_part; at = sym (append-nil vs) }
  gives_last (q ∷ ps) p (and_part {vs = ws} d t) =
      let i = gives_last ps p d in
      record { first = i.first; others = i.others ++ ws; of_part = i.of_part; of_others = and_part i.of_others t; at = ap (λ x. x ++ ws) i.at ∙ append_assoc i.first i.others ws }

  pub data Have : List Part → Type 0 where
    none : Have []
    and : {p : Part} {ps : List Part} → HasStrings g p.names (expression_of p.expr.now) → Have ps → Have (p ∷ ps)

  have_more : {ps : List Part} (p : Part) → Have ps → HasStrings g p.names (expression_of p.expr.now) → Have (ps ++ (p ∷ []))
  have_more p none s = and s none
  have_more p (and t h) s = and t (have_more p h s)

  have_front : (ps : List Part) (p : Part) → Have (ps ++ (p ∷ [])) → Have ps
  have_front [] p h = none
  have_front (q ∷ ps) p (and t h) = and t (have_front ps p h)

  pub have_last : (ps : List Part) (p : Part) → Have (ps ++ (p ∷ [])) → HasStrings g p.names (expression_of p.expr.now)
  have_last [] p (and s h) = s
  have_last (q ∷ ps) p (and t h) = have_last ps p h

  -- the texts so far, and the parts that are left
  pub record Telling (root : Expression) (told : List Text) (parts : List Part) : Type 0 where
    pub whole : (ts : List Text) → Gives parts ts → Strings g root (told ++ ts)
    pub have : Have parts

  pub begun : (p : Part) → HasStrings g p.names (expression_of p.expr.now) → Telling (expression_of p.expr.now) [] (p ∷ [])
  begun p s = record { whole = alone; have = and s none }
    where
      alone : (ts : List Text) → Gives (p ∷ []) ts → Strings g (expression_of p.expr.now) ts
      alone ts (and_part no_part t) = t

  pub finished : {root : Expression} {told : List Text} → Telling root told [] → Strings g root told
  finished {root} {told} t = subst (Strings g root) (append-nil told) (t.whole [] no_part)

  parts_have : {k : ℕ} {x y : Expression} → HasStrings g k (Choice x y) → IsLeaf x × (HasStrings g k x × HasStrings g k y)
  parts_have s = from s.within
    where
      from : {k : ℕ} {x y : Expression} {ts : List Text} → StringsWithin g k (Choice x y) ts → IsLeaf x × (HasStrings g k x × HasStrings g k y)
      from (within.StringsWithin.more l d f) = (l, (record { strings = _; within = d }, record { strings = _; within = f }))

  body_has : {k : ℕ} {n : Text} {r : Rule} → rule_of g n ≡ Some r → HasStrings g k (Ident n) → (0 < k) × HasStrings g (k - 1) r.body
  body_has {k = k} {n = n} {r = r} h s = from s.within
    where
      from : {ts : List Text} → StringsWithin g k (Ident n) ts → (0 < k) × HasStrings g (k - 1) r.body
      from (within.StringsWithin.named l i d) = (omega arith, subst (λ (x : Rule). HasStrings g (k - 1) x.body) (same_some (sym i ∙ h)) (higher g (omega arith) (record { strings = _; within = d })))

  module _ {root : Expression} {told : List Text} (ps : List Part) (p : Part) where
    pub a_text : (t : Text) → Telling root told (ps ++ (p ∷ [])) → expression_of p.expr.now ≡ Str t → Telling root (told ++ (t ∷ [])) ps
    a_text t l h = record {
      whole = λ ts d. subst (Strings g root) (sym (append_assoc told (t ∷ []) ts)) (l.whole ((t ∷ []) ++ ts) (gives_more p d (subst (λ x. Strings g x (t ∷ [])) (sym h) one)));
      have = have_front ps p l.have;
    }

    pub two_parts : (first others : Part) → first.names ≡ p.names → others.names ≡ p.names → expression_of p.expr.now ≡ Choice (expression_of first.expr.now) (expression_of others.expr.now)
        → Telling root told (ps ++ (p ∷ [])) → Telling root told ((ps ++ (others ∷ [])) ++ (first ∷ []))
    two_parts first others i j h l =
        let s = parts_have (subst (HasStrings g p.names) h (have_last ps p l.have)) in
        record {
          whole = λ ts d.
              let a = gives_last (ps ++ (others ∷ [])) first d in
              let b = gives_last ps others a.of_others in
              let both = subst (λ x. Strings g x (a.first ++ b.first)) (sym h) (more s.0 a.of_part b.of_part) in
              let at : ts ≡ (a.first ++ b.first) ++ b.others = a.at ∙ (ap (λ x. a.first ++ x) b.at ∙ sym (append_assoc a.first b.first b.others)) in
              subst (λ x. Strings g root (told ++ x)) (sym at) (l.whole _ (gives_more p b.of_others both));
          have = have_more first (have_more others (have_front ps p l.have) (subst (λ k. HasStrings g k (expression_of others.expr.now)) (sym j) s.1.1)) (subst (λ k. HasStrings g k (expression_of first.expr.now)) (sym i) s.1.0);
        }

    pub a_body : (body : Part) (n : Text) (r : Rule) → rule_of g n ≡ Some r → r.body ≡ expression_of body.expr.now → body.names ≡ p.names - 1 → expression_of p.expr.now ≡ Ident n
        → Telling root told (ps ++ (p ∷ [])) → Telling root told (ps ++ (body ∷ []))
    a_body body n r h i j e l =
        let s = body_has h (subst (HasStrings g p.names) e (have_last ps p l.have)) in
        record {
          whole = λ ts d.
              let a = gives_last ps body d in
              let t = subst (λ x. Strings g x a.first) (sym e) (named h (subst (λ x. Strings g x a.first) (sym i) a.of_part)) in
              subst (λ x. Strings g root (told ++ x)) (sym a.at) (l.whole _ (gives_more p a.of_others t));
          have = have_more body (have_front ps p l.have) (subst (λ k. HasStrings g k (expression_of body.expr.now)) (sym j) (subst (HasStrings g (p.names - 1)) i s.1));
        }

    pub is_positive : (n : Text) → expression_of p.expr.now ≡ Ident n → Telling root told (ps ++ (p ∷ [])) → 0 < p.names
    is_positive n e l = from (subst (HasStrings g p.names) e (have_last ps p l.have)).within
      where
        from : {ts : List Text} → StringsWithin g p.names (Ident n) ts → 0 < p.names
        from (within.StringsWithin.named l i d) = omega arith

    pub is_defined : (n : Text) → expression_of p.expr.now ≡ Ident n → Telling root told (ps ++ (p ∷ [])) → rule_of g n ≡ None → ⊥
    is_defined n e l h = from (subst (HasStrings g p.names) e (have_last ps p l.have)).within
      where
        from : {ts : List Text} → StringsWithin g p.names (Ident n) ts → ⊥
        from (within.StringsWithin.named l i d) = cc

-- how much is left to be told: a step for each leaf and each choice, by way of names down to a depth
abbrev steps_by : (List ℕ → ℕ) → Expr → ℕ
steps_by f (code.Ident s) = 1 + f (string_bytes s)
steps_by f (Choice' p x q y) = 1 + (steps_by f x + steps_by f y)
steps_by f _ = 1

abbrev body_work : (Expr → ℕ) → Option Expr → ℕ
body_work f None = 0
body_work f (Some x) = f x

abbrev work : {S : Type 0} → HashMap (String Global) Expr S → ℕ → Expr → ℕ
work m zero x = steps_by (λ n. 0) x
work m (suc k) x = steps_by (λ n. body_work (work m k) (get_by_text m n)) x

pub total : {S : Type 0} → HashMap (String Global) Expr S → List Part → ℕ
total m [] = 0
total m (p ∷ ps) = work m p.names p.expr.now + total m ps

module _ {S : Type 0} (m : HashMap (String Global) Expr S) where
  pub total_more : (ps : List Part) (p : Part) → total m (ps ++ (p ∷ [])) ≡ total m ps + work m p.names p.expr.now
  unfolding total
  total_more [] p = omega arith
  total_more (q ∷ ps) p = omega (arith, total_more ps p)

  pub work_choice : (k : ℕ) (a b : Box Expr Global) → work m k (is.Choice a b) ≡ 1 + (work m k a.value + work m k b.value)
  work_choice zero a b = refl
  work_choice (suc k) a b = refl

  steps_positive : (f : List ℕ → ℕ) (x : Expr) → 0 < steps_by f x
  steps_positive f (code.Ident s) = omega arith
  steps_positive f (Choice' p x q y) = omega arith
  steps_positive f _ = omega arith

  pub work_positive : (k : ℕ) (x : Expr) → 0 < work m k x
  work_positive zero x = steps_positive (λ n. 0) x
  work_positive (suc k) x = steps_positive (λ n. body_work (work m k) (get_by_text m n)) x

  pub work_name : (k : ℕ) (s : String Global) (x : Expr) → 0 < k → get_by_text m (string_bytes s) ≡ Some x → work m k (code.Ident s) ≡ 1 + work m (k - 1) x
  work_name zero s x h i = absurd (omega arith)
  work_name (suc k) s x h i = rw (i, sub-one) refl

  -- a step leaves less
  module _ (ps : List Part) (p : Part) where
    pub less_by_text : total m ps < total m (ps ++ (p ∷ []))
    less_by_text = omega (arith, total_more ps p, work_positive p.names p.expr.now)

    pub less_by_choice : (first others : Part) (a b : Box Expr Global) → first.names ≡ p.names → others.names ≡ p.names → p.expr.now ≡ is.Choice a b → first.expr.now ≡ a.value → others.expr.now ≡ b.value
        → total m ((ps ++ (others ∷ [])) ++ (first ∷ [])) < total m (ps ++ (p ∷ []))
    less_by_choice first others a b i j h k l =
        let w : work m p.names p.expr.now ≡ 1 + (work m p.names a.value + work m p.names b.value) = ap (work m p.names) h ∙ work_choice p.names a b in
        let u : work m first.names first.expr.now ≡ work m p.names a.value = ap (λ n. work m n first.expr.now) i ∙ ap (work m p.names) k in
        let v : work m others.names others.expr.now ≡ work m p.names b.value = ap (λ n. work m n others.expr.now) j ∙ ap (work m p.names) l in
        omega (arith, total_more ps p, total_more ps others, total_more (ps ++ (others ∷ [])) first, u, v, w)

    pub less_by_name : (body : Part) (s : String Global) → 0 < p.names → body.names ≡ p.names - 1 → p.expr.now ≡ is.Ident s → get_by_text m (string_bytes s) ≡ Some body.expr.now
        → total m (ps ++ (body ∷ [])) < total m (ps ++ (p ∷ []))
    less_by_name body s z i h k =
        let w : work m p.names p.expr.now ≡ 1 + work m (p.names - 1) body.expr.now = ap (work m p.names) h ∙ work_name p.names s body.expr.now z k in
        let u : work m body.names body.expr.now ≡ work m (p.names - 1) body.expr.now = ap (λ n. work m n body.expr.now) i in
        omega (arith, total_more ps p, total_more ps body, u, w)

-- a body by a name's text
pub body_at : {S : Type 0} (m : HashMap (String Global) Expr S) (s : String Global) (bs : List ℕ) (x : Expr) → bs ≡ string_bytes s → Some x ≡ get_by_text m bs → get_by_text m (string_bytes s) ≡ Some x
body_at m s bs x h i = ap (get_by_text m) (sym h) ∙ sym i

pub no_body_at : {S : Type 0} (m : HashMap (String Global) Expr S) (s : String Global) (bs : List ℕ) → bs ≡ string_bytes s → None ≡ get_by_text m bs → get_by_text m (string_bytes s) ≡ None
no_body_at m s bs h i = ap (get_by_text m) (sym h) ∙ sym i

-- what is neither a literal, a name nor a choice has no strings
pub other_has_none : (g : Grammar) (k : ℕ) (x : Expr) → ((s : String Global) → x ≡ is.Str s → ⊥) → ((s : String Global) → x ≡ is.Ident s → ⊥) → ((a b : Box Expr Global) → x ≡ is.Choice a b → ⊥)
    → HasStrings g k (expression_of x) → ⊥
other_has_none g k x n m l s = from x n m l s.within
  where
    from : {ts : List Text} (x : Expr) → ((s : String Global) → x ≡ is.Str s → ⊥) → ((s : String Global) → x ≡ is.Ident s → ⊥) → ((a b : Box Expr Global) → x ≡ is.Choice a b → ⊥)
        → StringsWithin g k (expression_of x) ts → ⊥
    from (code.Str s) n m l d = n s refl
    from (code.Ident s) n m l d = m s refl
    from (Choice' p x q y) n m l d = l _ _ refl
    from _ n m l d = elim d [ ]

abbrev Answer : Type 0
Answer = Result (Option (Vec (String Global) Global)) AllocError

pub told : {S : Type 0} (m : HashMap (String Global) Expr S) (P : Grammar → Type 0) (e : Expression) (k : ℕ) (r : Answer) → ((g : Grammar) → P g → HoldsBodies m g × HasStrings g k e)
    → IfOk r (λ found. (g : Grammar) → HoldsBodies m g → HasStrings g k e → MatchOption found ⊥ (λ ts. Strings g e (map text_of ts.items)))
    → IfOk r (λ found. (g : Grammar) → P g → StringsOrNone g e found)
told m P e k (Ok (Some ts)) s f = λ g p. f g (s g p).0 (s g p).1
told m P e k (Ok None) s f = λ g p. absurd (f g (s g p).0 (s g p).1)
told m P e k (Err x) s f = f
