-- Different rules of the meta-grammar have different names.
use Rattle.std.proofs.Common.{◌≡◌, List, [], ◌∷◌, Option, Some, None, if◌then◌else◌, bytes_eq, refl, sym, ap, ◌∙◌}
use Rattle.base_language.specs.Language.Text.{Text}
use Rattle.base_language.specs.Pieces.MetaRules.{name_of, meta_rules}
use Rattle.base_language.specs.declared.grammar.Rule.{Rule}
use Rattle.base_language.specs.declared.grammar.Rule.TheVariants.{EOI}
use Rattle.base_language.proofs.Basics.{same_some}

-- the first rule of a name
abbrev found_in : List Rule → Text → Option Rule
found_in [] n = None
found_in (r ∷ rs) n = if bytes_eq (name_of r) n then Some r else found_in rs n

found : (r : Rule) → found_in (EOI ∷ meta_rules) (name_of r) ≡ Some r
found EOI = refl
found _ = refl

pub name_of-injective : (r q : Rule) → name_of r ≡ name_of q → r ≡ q
name_of-injective r q h = same_some (sym (found r) ∙ (ap (found_in (EOI ∷ meta_rules)) h ∙ found q))
