-- The rule that a name is of.
use Rattle.std.proofs.Common.{◌≡◌, refl, List, [], ◌∷◌, Bool, true, false, Option, Some, None, if◌then◌else◌, bytes_eq}
use Rattle.std.proofs.lemmas.Slice.Eq.{bytes_eq-Decides}
use Rattle.base_language.specs.Language.Text.{Text}
use Rattle.base_language.specs.Pieces.MetaRules.{name_of, meta_rules}
use Rattle.base_language.specs.declared.grammar.Rule.{Rule}
use Rattle.base_language.specs.declared.grammar.Rule.TheVariants as is

abbrev named_among : List Rule → Text → Option Rule
named_among [] n = None
named_among (r ∷ rs) n = if bytes_eq (name_of r) n then Some r else named_among rs n

unfoldable pub rule_named : Text → Option Rule
rule_named n = named_among (is.EOI ∷ meta_rules) n

found : (rs : List Rule) (n : Text) (r : Rule) → named_among rs n ≡ Some r → name_of r ≡ n
found [] n r h = cc
found (q ∷ rs) n r h = here (bytes_eq (name_of q) n) refl h (λ i. found rs n r i)
  where
    here : (b : Bool) → bytes_eq (name_of q) n ≡ b → (if b then Some q else named_among rs n) ≡ Some r → (named_among rs n ≡ Some r → name_of r ≡ n) → name_of r ≡ n
    here true e i f = let k : q ≡ r = cc in rw (← k) ((bytes_eq-Decides (name_of q) n).0 e)
    here false e i f = f i

pub name_of_named : (n : Text) (r : Rule) → rule_named n ≡ Some r → name_of r ≡ n
unfolding rule_named
name_of_named n r h = found (is.EOI ∷ meta_rules) n r h

pub named_rule : (r : Rule) → rule_named (name_of r) ≡ Some r
unfolding rule_named
named_rule is.EOI = refl
named_rule _ = refl
