-- What names mean.
use Rattle.std.proofs.Common.{◌≡◌, ℕ, List, [], ◌∷◌, Option, Some, None, is_some, Bool, true, false, if◌then◌else◌, bytes_eq, slice_get, refl, sym, ◌∙◌, ap}
use Rattle.base_language.specs.Language.Text.{Text}
use Rattle.base_language.specs.Language.Expression.{rule_of, or_else, last_place}
use Rattle.base_language.proofs.LastPlaces.{next}
use Rattle.front_spanned.specs.declared.node.ParserRule.{ParserRule}
use Rattle.front_analysis.specs.Names.{grammar_of, rule_said}

-- the rule that a name means, and its place
pub data Named (rs : List ParserRule) (n : Text) : Option ℕ → Type 0 where
  absent : rule_of (grammar_of rs) n ≡ None → Named rs n None
  named : {r : ℕ} (rule : ParserRule) → slice_get rs r ≡ Some rule → rule_of (grammar_of rs) n ≡ Some (rule_said rule) → Named rs n (Some r)

pub resolved : (rs : List ParserRule) (n : Text) → Named rs n (last_place (grammar_of rs) n)
resolved [] n = absent refl
resolved (q ∷ rs) n = go (last_place (grammar_of rs) n) (resolved rs n) (bytes_eq (rule_said q).name n) refl
  where
    go : (o : Option ℕ) → Named rs n o → (b : Bool) → bytes_eq (rule_said q).name n ≡ b → Named (q ∷ rs) n (next b o)
    go o (named rule at e) b h = named rule at (ap (λ z. or_else z (if bytes_eq (rule_said q).name n then Some (rule_said q) else None)) e)
    go o (absent e) true h = named q refl (ap (λ z. or_else z (if bytes_eq (rule_said q).name n then Some (rule_said q) else None)) e ∙ ap (λ b. or_else None (if b then Some (rule_said q) else None)) h)
    go o (absent e) false h = absent (ap (λ z. or_else z (if bytes_eq (rule_said q).name n then Some (rule_said q) else None)) e ∙ ap (λ b. or_else None (if b then Some (rule_said q) else None)) h)

pub same_item : {A : Type 0} (o : Option A) (x y : A) → o ≡ Some x → o ≡ Some y → x ≡ y
same_item o x y e f = let h : Some x ≡ Some y = sym e ∙ f in cc

-- a name has a place where it has a rule
pub is_named : (rs : List ParserRule) (n : Text) → is_some (last_place (grammar_of rs) n) ≡ is_some (rule_of (grammar_of rs) n)
is_named rs n = go (last_place (grammar_of rs) n) (resolved rs n)
  where
    go : (o : Option ℕ) → Named rs n o → is_some o ≡ is_some (rule_of (grammar_of rs) n)
    go o (absent e) = sym (ap is_some e)
    go o (named rule at e) = sym (ap is_some e)
