-- Strings of expressions, by way of names.
use Rattle.std.proofs.Common.{◌≡◌, refl, sym, ◌∙◌, ap, subst, ℕ, ◌≤◌, List, Option, Some, None, arith, string_bytes, Global}
use Rattle.std.specs.Option.{option_map}
use Rattle.std.specs.Str.{chars}
use Rattle.std.specs.HashMap.{HashMap, get_by_text}
use Rattle.std.specs.declared.string.String.{String}
use Rattle.base_language.specs.Language.Text.{Text}
use Rattle.base_language.specs.Language.Expression.{Expression, Ident, Choice, Rule, Grammar, rule_of}
use Rattle.base_language.specs.Rewritings.Rewriting.{IsLeaf, Strings, one, named, more}
use Rattle.base_language.proofs.Basics.{same_some}
use Rattle.base_ast.specs.Ast.{expression_of, text_of}
use Rattle.base_ast.specs.declared.ast.Expr.{Expr}
use Rattle.front_optimizer.specs.Bodies as within
use Rattle.front_optimizer.specs.Bodies.{HoldsBodies, Needs, the_name, in_first, in_others, StringsWithin, HasStrings, HasNoStrings}

-- a name needs another, at once or by way of others
pub data Path (g : Grammar) : Text → Text → Type 0 where
  at_once : {n k : Text} {r : Rule} → rule_of g n ≡ Some r → Needs r.body k → Path g n k
  by_way : {n k j : Text} {r : Rule} → rule_of g n ≡ Some r → Needs r.body k → Path g k j → Path g n j

module _ (g : Grammar) where
  raised : {j k : ℕ} {e : Expression} {ts : List Text} → j ≤ k → StringsWithin g j e ts → StringsWithin g k e ts
  raised h within.StringsWithin.one = within.StringsWithin.one
  raised h (within.StringsWithin.named l i d) = within.StringsWithin.named (omega arith) i d
  raised h (within.StringsWithin.more l d f) = within.StringsWithin.more l (raised h d) (raised h f)

  pub higher : {j k : ℕ} {e : Expression} → j ≤ k → HasStrings g j e → HasStrings g k e
  higher h s = record { strings = s.strings; within = raised h s.within }

  pub forgotten : {k : ℕ} {e : Expression} {ts : List Text} → StringsWithin g k e ts → Strings g e ts
  forgotten within.StringsWithin.one = one
  forgotten (within.StringsWithin.named l i d) = named i (forgotten d)
  forgotten (within.StringsWithin.more l d f) = more l (forgotten d) (forgotten f)

  onward : {n k j : Text} {r : Rule} → Path g n k → rule_of g k ≡ Some r → Needs r.body j → Path g n j
  onward (at_once h w) i v = by_way h w (at_once i v)
  onward (by_way h w p) i v = by_way h w (onward p i v)

  body_needs : {r q : Rule} {k : Text} → Some q ≡ Some r → Needs q.body k → Needs r.body k
  body_needs {k = k} h w = subst (λ (x : Rule). Needs x.body k) (same_some h) w

  -- what has strings needs no name that needs itself
  pub no_cycle : {e : Expression} {ts : List Text} {n : Text} → Strings g e ts → Needs e n → Path g n n → ⊥
  no_cycle (named h d) the_name (at_once i w) = no_cycle d (body_needs (sym i ∙ h) w) (at_once i w)
  no_cycle (named h d) the_name (by_way i w p) = no_cycle d (body_needs (sym i ∙ h) w) (onward p i w)
  no_cycle (more l d f) (in_first w) p = no_cycle d w p
  no_cycle (more l d f) (in_others w) p = no_cycle f w p
  no_cycle one w p = elim w [ ]

  pub needed_strings : {e : Expression} {ts : List Text} {n : Text} → Strings g e ts → Needs e n → (us : List Text) × Strings g (Ident n) us
  needed_strings (named h d) the_name = (_, named h d)
  needed_strings (more l d f) (in_first w) = needed_strings d w
  needed_strings (more l d f) (in_others w) = needed_strings f w
  needed_strings one w = elim w [ ]

  pub of_body : {n : Text} {r : Rule} {ts : List Text} → rule_of g n ≡ Some r → Strings g (Ident n) ts → Strings g r.body ts
  of_body {ts = ts} h (named i d) = subst (λ (x : Rule). Strings g x.body ts) (same_some (sym i ∙ h)) d

  pub of_first : {x e : Expression} {ts : List Text} → Strings g (Choice x e) ts → (us : List Text) × Strings g x us
  of_first (more l d f) = (_, d)

  pub of_others : {x e : Expression} {ts : List Text} → Strings g (Choice x e) ts → (us : List Text) × Strings g e us
  of_others (more l d f) = (_, f)

  pub of_leaf : {x e : Expression} {ts : List Text} → Strings g (Choice x e) ts → IsLeaf x
  of_leaf (more l d f) = l

  pub no_rule_none : {n : Text} → rule_of g n ≡ None → HasNoStrings g (Ident n)
  no_rule_none h ts (named i d) = cc

-- what the map says of a name
module _ {S : Type 0} (m : HashMap (String Global) Expr S) (g : Grammar) (held : HoldsBodies m g) (n : String Global) where
  pub record IsDefined (x : Expr) : Type 0 where
    pub rule : Rule
    pub defined : rule_of g (text_of n) ≡ Some rule
    pub body : rule.body ≡ expression_of x

  found_at : (x : Expr) (o : Option Rule) → rule_of g (text_of n) ≡ o → Some (expression_of x) ≡ option_map (λ (r : Rule). r.body) o → IsDefined x
  found_at x (Some r) h i = record { rule = r; defined = h; body = cc }
  found_at x None h i = cc

  pub found : (x : Expr) → get_by_text m (string_bytes n) ≡ Some x → IsDefined x
  found x h = found_at x (rule_of g (text_of n)) refl (ap (option_map expression_of) (sym h) ∙ held n)

  missing_at : (o : Option Rule) → None ≡ option_map (λ (r : Rule). r.body) o → o ≡ None
  missing_at (Some r) i = cc
  missing_at None i = refl

  pub missing : get_by_text m (string_bytes n) ≡ None → rule_of g (text_of n) ≡ None
  missing h = missing_at (rule_of g (text_of n)) (ap (option_map expression_of) (sym h) ∙ held n)

-- the same by a name's text
module _ {S : Type 0} (m : HashMap (String Global) Expr S) (g : Grammar) (held : HoldsBodies m g) (bs : List ℕ) (n : (s : String Global) × (string_bytes s ≡ bs)) where
  pub record IsNamed (x : Expr) : Type 0 where
    pub rule : Rule
    pub defined : rule_of g (chars bs) ≡ Some rule
    pub body : rule.body ≡ expression_of x

  pub named_so : (x : Expr) → Some x ≡ get_by_text m bs → IsNamed x
  named_so x h =
      let d = found m g held n.0 x (ap (get_by_text m) n.1 ∙ sym h) in
      record { rule = d.rule; defined = ap (λ b. rule_of g (chars b)) (sym n.1) ∙ d.defined; body = d.body }

  pub missing_so : None ≡ get_by_text m bs → rule_of g (chars bs) ≡ None
  missing_so h = ap (λ b. rule_of g (chars b)) (sym n.1) ∙ missing m g held n.0 (ap (get_by_text m) n.1 ∙ sym h)
