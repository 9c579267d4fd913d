-- The rules of a list, and the rules that names mean.
use Rattle.std.proofs.Common.{◌≡◌, [], ◌∷◌, Bool, true, false, if◌then◌else◌, Option, Some, None, refl, ap, subst, bytes_eq}
use Rattle.std.proofs.lemmas.List.Elements.{All-nil, All-cons, All-head, All-tail, All-weaker, All-contains, All-contains_itself}
use Rattle.std.proofs.lemmas.Slice.Eq.{bytes_eq-Decides}
use Rattle.std.specs.List.{All, Contains}
use Rattle.base_language.specs.Language.Expression.{Grammar, Rule, rule_of, or_else, Expression}
use Rattle.base_language.specs.Language.Text.{Text}
use Rattle.base_language.specs.Language.Grammar.{HasDistinctNames}
use Rattle.base_language.specs.Language.WellFormed.{HasReadableCounts, InRules, InSomeRule, NamesHaveReadableCounts}
use Rattle.base_language.proofs.Basics.{same_some}

-- what holds of each rule holds of the rule that a name means
module _ (P : Rule → Type 0) where
  pub holds_of_named : (g : Grammar) (n : Text) (r : Rule) → All P g → rule_of g n ≡ Some r → P r
  holds_of_named [] n r a e = cc
  holds_of_named (q ∷ g) n r a e = go (rule_of g n) (bytes_eq q.name n) (λ s i. holds_of_named g n s (All-tail P q g a) i) refl e
    where
      go : (o : Option Rule) (b : Bool) → ((s : Rule) → rule_of g n ≡ Some s → P s) → rule_of g n ≡ o → or_else o (if b then Some q else None) ≡ Some r → P r
      go (Some s) b f i e = subst P (same_some e) (f s i)
      go None true f i e = subst P (same_some e) (All-head P q g a)
      go None false f i e = cc

-- what holds of all rules that the list contains holds of each
pub each_rule : (P : Rule → Type 0) (g : Grammar) → ((r : Rule) → Contains g r → P r) → All P g
each_rule P g f = All-weaker (Contains g) P f g (All-contains_itself g)

pub in_some_rule : (g : Grammar) {p : Expression} → InRules g p → InSomeRule g p
in_some_rule g i = (i.1, holds_of_named (Contains g) g i.0 i.1 (All-contains_itself g) i.2, i.3)

pub names_readable : (g : Grammar) → HasReadableCounts g → NamesHaveReadableCounts g
names_readable g k p i = k p (in_some_rule g i)

-- where names are distinct, each rule is the one that its name means
abbrev IsMeant : Grammar → Rule → Type 0
IsMeant g r = rule_of g r.name ≡ Some r

all_meant : (g : Grammar) → HasDistinctNames g → All (IsMeant g) g
all_meant [] d = All-nil (IsMeant [])
all_meant (r ∷ g) d = All-cons (IsMeant (r ∷ g)) r g first (All-weaker (IsMeant g) (IsMeant (r ∷ g)) (λ s e. later s e) g (all_meant g d.1))
  where
    first : IsMeant (r ∷ g) r
    first = rw d.0 (ap (λ b. if b then Some r else None) ((bytes_eq-Decides r.name r.name).1 refl))

    later : (s : Rule) → IsMeant g s → IsMeant (r ∷ g) s
    later s e = ap (λ o. or_else o (if bytes_eq r.name s.name then Some r else None)) e

pub in_rules : (g : Grammar) {p : Expression} → HasDistinctNames g → InSomeRule g p → InRules g p
in_rules g d i = (i.0.name, i.0, All-contains (IsMeant g) g i.0 (all_meant g d) i.1, i.2)
