-- A name that the search finds nowhere is of no rule.
use Rattle.std.proofs.Common.{◌≡◌, ℕ, Bool, false, List, ◌∷◌, Option, Some, None, IfNone, bytes_eq, cond, refl, subst, sym}
use Rattle.std.specs.List.{find}
use Rattle.std.specs.Option.{option_map}
use Rattle.base_language.specs.Pieces.MetaRules.{meta_rules, name_of}
use Rattle.base_language.specs.declared.grammar.Rule.{Rule}
use Rattle.base_language.specs.declared.grammar.Rule.TheVariants.{EOI}
use Rattle.format_json.specs.RuleNames.{IsOfNoRule}

abbrev pub has_name : List ℕ → Rule → Bool
has_name name rule = bytes_eq name (name_of rule)

-- each rule is found by its name
found : (r : Rule) → find (has_name (name_of r)) (EOI ∷ meta_rules) ≡ Some r
found EOI = refl
found _ = refl

-- if the first is none that is looked for, nor any other
nowhere : (first : Bool) (others : Option Rule) (q r : Rule) → first ≡ false → others ≡ None → cond first (Some q) others ≡ Some r → ⊥
nowhere first others q r e h f = cc

of_no_rule : (name : List ℕ) → has_name name EOI ≡ false → find (has_name name) meta_rules ≡ None → IsOfNoRule name
of_no_rule name e h r same =
    nowhere (has_name name EOI) (find (has_name name) meta_rules) EOI r e h (subst (λ n. find (has_name n) (EOI ∷ meta_rules) ≡ Some r) same (found r))

pub none_is_of_no_rule : (name : List ℕ) (answer : Option Rule) → has_name name EOI ≡ false → option_map (λ rule. rule) answer ≡ find (has_name name) meta_rules → IfNone answer (IsOfNoRule name)
none_is_of_no_rule name (Some rule) e h = tt
none_is_of_no_rule name None e h = of_no_rule name e (sym h)
