-- Along an expression whose first names are known.
use Rattle.std.proofs.Common.{◌≡◌, ◌∙◌, refl, sym, ap, subst, ℕ, List, Option, Some, None, string_bytes, Global, Bool}
use Rattle.std.specs.HashMap.{HashMap}
use Rattle.std.specs.declared.string.String.{String}
use denote.Ref.{Bor}
use Rattle.base_language.specs.Language.Text.{Text}
use Rattle.base_language.specs.Language.Expression.{Expression, Choice, Grammar}
use Rattle.base_language.specs.Language.Expression as e
use Rattle.base_language.specs.Rewritings.Rewriting.{IsLeaf, name}
use Rattle.base_ast.specs.Ast.{expression_of, text_of}
use Rattle.base_ast.specs.declared.ast.Expr.{Expr, Choice'}
use Rattle.base_ast.specs.declared.ast.Expr.TheVariants.{Str, Ident}
use Rattle.front_optimizer.specs.Bodies as within
use Rattle.front_optimizer.specs.Bodies.{Needs, the_name, in_first, in_others, StringsWithin, HasStrings, HasNoStrings, RestHas, RestHasNone, RestNeeds, met_at, KnownHave, FindsName, Splits}
use Rattle.front_optimizer.proofs.NamedStrings.{of_first, of_others, of_leaf}

-- a leaf and what stands behind it
has_both : (g : Grammar) (k : ℕ) {x y : Expression} → IsLeaf x → HasStrings g k x → HasStrings g k y → HasStrings g k (Choice x y)
has_both g k l s t = record { strings = _; within = within.StringsWithin.more l s.within t.within }

pub split_has : (g : Grammar) (k : ℕ) {a x : Expression} (behind : Option (Bor Expr)) → Splits a x behind → IsLeaf x → HasStrings g k x → RestHas g k behind → HasStrings g k a
split_has g k None h l s b = subst (HasStrings g k) (sym h.0) s
split_has g k (Some others) h l s b = subst (HasStrings g k) (sym h) (has_both g k l s b)

pub split_needs_first : {a x : Expression} (behind : Option (Bor Expr)) {j : Text} → Splits a x behind → Needs x j → Needs a j
split_needs_first None {j = j} h w = subst (λ y. Needs y j) (sym h.0) w
split_needs_first (Some others) {j = j} h w = subst (λ y. Needs y j) (sym h) (in_first w)

pub split_needs_behind : {a : Expression} (x : Expression) (behind : Option (Bor Expr)) {j : Text} → Splits a x behind → RestNeeds behind j → Needs a j
split_needs_behind x None h w = absurd w
split_needs_behind x (Some others) {j = j} h w = subst (λ y. Needs y j) (sym h) (in_others w)

pub split_fails_first : (g : Grammar) {a x : Expression} (behind : Option (Bor Expr)) → Splits a x behind → HasNoStrings g x → HasNoStrings g a
split_fails_first g None h n = subst (HasNoStrings g) (sym h.0) n
split_fails_first g {x = x} (Some others) h n = subst (HasNoStrings g) (sym h) (λ ts s. let d = of_first g s in n d.0 d.1)

pub split_fails_behind : (g : Grammar) {a : Expression} (x : Expression) (behind : Option (Bor Expr)) → Splits a x behind → RestHasNone g behind → HasNoStrings g a
split_fails_behind g x None h n = absurd n
split_fails_behind g x (Some others) h n = subst (HasNoStrings g) (sym h) (λ ts s. let d = of_others g s in n d.0 d.1)

-- what is neither a literal nor a name has no strings at the end, and stands first nowhere
no_leaf : (x : Expr) → ((s : String Global) → x ≡ Str s → ⊥) → ((s : String Global) → x ≡ Ident s → ⊥) → IsLeaf (expression_of x) → ⊥
no_leaf (Str s) n m l = n s refl
no_leaf (Ident s) n m l = m s refl
no_leaf _ n m l = elim l [ ]

no_end : (g : Grammar) (x : Expr) → ((s : String Global) → x ≡ Str s → ⊥) → ((s : String Global) → x ≡ Ident s → ⊥) → ((a b : Expression) → expression_of x ≡ Choice a b → ⊥) → HasNoStrings g (expression_of x)
no_end g (Str s) n m c ts d = n s refl
no_end g (Ident s) n m c ts d = m s refl
no_end g (Choice' p x q y) n m c ts d = c _ _ refl
no_end g _ n m c ts d = elim d [ ]

pub split_fails : (g : Grammar) {a : Expression} (x : Expr) (behind : Option (Bor Expr)) → Splits a (expression_of x) behind
    → ((s : String Global) → x ≡ Str s → ⊥) → ((s : String Global) → x ≡ Ident s → ⊥) → HasNoStrings g a
split_fails g x None h n m = subst (HasNoStrings g) (sym h.0) (no_end g x n m (λ a b i. h.1 a b (h.0 ∙ i)))
split_fails g x (Some others) h n m = subst (HasNoStrings g) (sym h) (λ ts s. no_leaf x n m (of_leaf g s))

module _ {S : Type 0} (m : HashMap (Bor (List ℕ)) Bool S) where
  -- what is left of an expression
  pub record Follows (whole rest : Expression) : Type 0 where
    pub gives : (g : Grammar) (k : ℕ) → KnownHave m g k → HasStrings g k rest → HasStrings g k whole
    pub needed : (j : Text) → Needs rest j → Needs whole j
    pub fails : (g : Grammar) → HasNoStrings g rest → HasNoStrings g whole

  pub itself : (a : Expression) → Follows a a
  itself a = record { gives = λ g k h s. s; needed = λ j w. w; fails = λ g n. n }

  pub along : {whole rest x : Expression} (others : Bor Expr) → Follows whole rest → Splits rest x (Some others) → IsLeaf x
      → ((g : Grammar) (k : ℕ) → KnownHave m g k → HasStrings g k x) → Follows whole (expression_of others.now)
  along others f h l s = record {
    gives = λ g k u t. f.gives g k u (split_has g k (Some others) h l (s g k u) t);
    needed = λ j w. f.needed j (split_needs_behind _ (Some others) h w);
    fails = λ g n. f.fails g (split_fails_behind g _ (Some others) h n);
  }

  pub literal_has : (g : Grammar) (k : ℕ) (t : Text) → HasStrings g k (e.Str t)
  literal_has g k t = record { strings = _; within = within.StringsWithin.one }

  pub finds : {whole rest : Expression} (s : String Global) (behind : Option (Bor Expr)) → Follows whole rest → Splits rest (e.Ident (text_of s)) behind → met_at m (string_bytes s) ≡ None → FindsName m whole (string_bytes s) behind
  finds s behind f h n = record {
    is_new = n;
    spelled = (s, refl);
    needed = f.needed _ (split_needs_first behind h the_name);
    gives = λ g k u t b. f.gives g k u (split_has g k behind h name t b);
    behind_needed = λ j w. f.needed j (split_needs_behind _ behind h w);
    behind_fails = λ g n. f.fails g (split_fails_behind g _ behind h n);
  }

-- what a look-up by one text says of the same text
pub met_so : {S : Type 0} (m : HashMap (Bor (List ℕ)) Bool S) (bs cs : List ℕ) (r : Bor Bool) (b : Bool) → cs ≡ bs → Some r.now ≡ met_at m cs → r.now ≡ b → met_at m bs ≡ Some b
met_so m bs cs r b h i j = ap (met_at m) (sym h) ∙ (sym i ∙ ap Some j)

pub not_met_so : {S : Type 0} (m : HashMap (Bor (List ℕ)) Bool S) (bs cs : List ℕ) → cs ≡ bs → None ≡ met_at m cs → met_at m bs ≡ None
not_met_so m bs cs h i = ap (met_at m) (sym h) ∙ sym i
