-- The numbers of the rules of the meta-grammar.
use Rattle.std.specs.Prelude.{◌≡◌, ⊤, ℕ, suc, List, [], ◌∷◌, bytes_eq, get_or, if◌then◌else◌}
use Rattle.base_language.specs.Language.State.{Trees, None', Tree}
use Rattle.base_language.specs.Language.Text.{Text}
use Rattle.base_language.specs.Pieces.MetaRules.{meta_rules, name_of}
use Rattle.base_language.specs.declared.grammar.Rule.{Rule}
use Rattle.base_language.specs.declared.grammar.Rule.TheVariants.{EOI}

-- the place of a name among those of rules, or else their count
abbrev pub place_among : List Rule → Text → ℕ
place_among [] n = 0
place_among (r ∷ rs) n = if bytes_eq (name_of r) n then 0 else suc (place_among rs n)

-- the number of a rule's name: its place in the order of the meta-grammar, `EOI` before all
abbrev pub number_of : Text → ℕ
number_of n = place_among (EOI ∷ meta_rules) n

-- the rule of a number, and `EOI` for a number that is no rule's
abbrev pub rule_numbered : ℕ → Rule
rule_numbered k = get_or (EOI ∷ meta_rules) k EOI

-- each tree's name is that of the rule of its number
abbrev pub AreNumbered : Trees → Type 0
AreNumbered None' = ⊤
AreNumbered (Tree r i j inner others) =
    (name_of (rule_numbered (number_of r)) ≡ r) × AreNumbered inner × AreNumbered others
