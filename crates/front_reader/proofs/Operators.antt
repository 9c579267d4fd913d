-- Postfix operators that count, by the trees in them.
use Rattle.std.proofs.Common.{◌≡◌, refl, sym, ap, ℕ, List, Option, None}
use Rattle.std.specs.Prelude.{codes}
use Rattle.std.specs.Option.{option_or}
use Rattle.base_language.specs.Language.Text.{Text}
use Rattle.base_language.specs.Language.State.{Trees, None', Tree}
use Rattle.front_reader.specs.Flaws.{first_flaw, own_flaw, not_a_count, past_u32, Flaw}
use Rattle.front_reader.specs.Reading as reading
use Rattle.front_reader.specs.Reading.{Postfix, number}
use Rattle.base_language.specs.Pieces.MetaRules.{name_of}
use Rattle.front_grammar.specs.Shape.{IsNumber, IsCounted, exact, min, max, min_max, IsPostfix, opt, rep, rep_once, counted, ArePostfixes, more}
use Rattle.front_spanned.specs.Spanned.{Unary, RepExact, RepMin, RepMax, RepMinMax}
use Rattle.base_language.specs.declared.grammar.Rule.{Rule}
use Rattle.base_language.specs.declared.grammar.Rule.TheVariants as rule_is
use Rattle.front_reader.proofs.FlawsInOrder.{or_none}
use Rattle.base_language.proofs.MetaNames.{name_of-injective}

-- the trees hold one number, from i to j: its first flaw is theirs, and it is what the operator says
pub record HoldsOne (text : List ℕ) (r : Text) (us : Trees) (i j : ℕ) (o : Option Flaw) (f : ℕ → Unary) : Type 0 where
  pub digits : IsNumber text i j
  pub flaw : first_flaw text us ≡ o
  pub says : (n : ℕ) → n ≡ number text i j → Postfix text r us (f n)

pub exact_trees : {text : List ℕ} {r s : Text} {a b i j : ℕ} {us vs ws : Trees}
    → IsCounted text (codes "repeat_exact") (Tree r a b us (Tree s i j vs ws))
    → HoldsOne text (codes "repeat_exact") (Tree r a b us (Tree s i j vs ws)) i j (not_a_count text i j) RepExact
unfolding own_flaw
exact_trees {text} {i = i} {j = j} (exact d) = record { digits = d; flaw = or_none (not_a_count text i j); says = λ n e. rw e reading.exact }

pub min_trees : {text : List ℕ} {r s : Text} {a b i j : ℕ} {us vs ws : Trees}
    → IsCounted text (codes "repeat_min") (Tree r a b us (Tree s i j vs ws))
    → HoldsOne text (codes "repeat_min") (Tree r a b us (Tree s i j vs ws)) i j (past_u32 text i j) RepMin
unfolding own_flaw
min_trees {text} {i = i} {j = j} (min d) = record { digits = d; flaw = or_none (past_u32 text i j); says = λ n e. rw e reading.min }

pub max_trees : {text : List ℕ} {r s t : Text} {a b c d i j : ℕ} {us vs ws xs : Trees}
    → IsCounted text (codes "repeat_max") (Tree r a b us (Tree s c d vs (Tree t i j ws xs)))
    → HoldsOne text (codes "repeat_max") (Tree r a b us (Tree s c d vs (Tree t i j ws xs))) i j (not_a_count text i j) RepMax
unfolding own_flaw
max_trees {text} {i = i} {j = j} (max d) = record { digits = d; flaw = or_none (not_a_count text i j); says = λ n e. rw e reading.max }

-- and two of them
pub record HoldsTwo (text : List ℕ) (r : Text) (us : Trees) (i j k l : ℕ) : Type 0 where
  pub least : IsNumber text i j
  pub most : IsNumber text k l
  pub flaw : first_flaw text us ≡ option_or (past_u32 text i j) (not_a_count text k l)
  pub says : (m n : ℕ) → m ≡ number text i j → n ≡ number text k l → Postfix text r us (RepMinMax m n)

pub two_trees : {text : List ℕ} {r s t u : Text} {a b c d i j k l : ℕ} {us vs ws xs ys : Trees}
    → IsCounted text (codes "repeat_min_max")
    (Tree r a b us (Tree s i j vs (Tree t c d ws (Tree u k l xs ys))))
    → HoldsTwo text (codes "repeat_min_max") (Tree r a b us (Tree s i j vs (Tree t c d ws (Tree u k l xs ys)))) i j k l
unfolding own_flaw
two_trees {text} {i = i} {j = j} {k = k} {l = l} (min_max d e) = record {
  least = d;
  most = e;
  flaw = ap (λ o. option_or (past_u32 text i j) o) (or_none (not_a_count text k l));
  says = λ m n p q. rw (p, q) reading.min_max;
}

-- neither is the last tree
pub no_comma : {text : List ℕ} {r s : Text} {a b i j : ℕ} {us vs : Trees}
    → IsCounted text (codes "repeat_min_max") (Tree r a b us (Tree s i j vs None')) → ⊥
no_comma h = elim h [ ]

pub no_second : {text : List ℕ} {r s t : Text} {a b c d i j : ℕ} {us vs ws : Trees}
    → IsCounted text (codes "repeat_min_max") (Tree r a b us (Tree s i j vs (Tree t c d ws None'))) → ⊥
no_second h = elim h [ ]

-- a postfix operator's rule is one of seven
pub postfix_rule : {text : List ℕ} {n : Text} {us : Trees} (r : Rule) → IsPostfix text n us → n ≡ name_of r
    → ¬ (r ≡ rule_is.optional_operator) → ¬ (r ≡ rule_is.repeat_operator)
    → ¬ (r ≡ rule_is.repeat_once_operator) → ¬ (r ≡ rule_is.repeat_exact) → ¬ (r ≡ rule_is.repeat_min)
    → ¬ (r ≡ rule_is.repeat_max) → ¬ (r ≡ rule_is.repeat_min_max) → ⊥
postfix_rule r opt e a b c d f g h = a (name_of-injective r rule_is.optional_operator (sym e))
postfix_rule r rep e a b c d f g h = b (name_of-injective r rule_is.repeat_operator (sym e))
postfix_rule r rep_once e a b c d f g h = c (name_of-injective r rule_is.repeat_once_operator (sym e))
postfix_rule r (counted (exact n)) e a b c d f g h = d (name_of-injective r rule_is.repeat_exact (sym e))
postfix_rule r (counted (min n)) e a b c d f g h = f (name_of-injective r rule_is.repeat_min (sym e))
postfix_rule r (counted (max n)) e a b c d f g h = g (name_of-injective r rule_is.repeat_max (sym e))
postfix_rule r (counted (min_max m n)) e a b c d f g h = h (name_of-injective r rule_is.repeat_min_max (sym e))

-- an operator that doesn't count holds nothing
pub opt_trees : {text : List ℕ} {us : Trees} → IsPostfix text (codes "optional_operator") us → us ≡ None'
opt_trees opt = refl
opt_trees (counted h) = elim h [ ]

pub rep_trees : {text : List ℕ} {us : Trees} → IsPostfix text (codes "repeat_operator") us → us ≡ None'
rep_trees rep = refl
rep_trees (counted h) = elim h [ ]

pub rep_once_trees : {text : List ℕ} {us : Trees} → IsPostfix text (codes "repeat_once_operator") us
    → us ≡ None'
rep_once_trees rep_once = refl
rep_once_trees (counted h) = elim h [ ]

-- the first of two numbers
pub record HoldsFirst (text : List ℕ) (us : Trees) (i j : ℕ) : Type 0 where
  pub digits : IsNumber text i j
  pub behind : Option Flaw
  pub flaw : first_flaw text us ≡ option_or (past_u32 text i j) behind

pub first_of_two : {text : List ℕ} {r s : Text} {a b i j : ℕ} {us vs ws : Trees}
    → IsCounted text (codes "repeat_min_max") (Tree r a b us (Tree s i j vs ws))
    → HoldsFirst text (Tree r a b us (Tree s i j vs ws)) i j
unfolding own_flaw
first_of_two {text} {ws = ws} (min_max d e) = record { digits = d; behind = first_flaw text ws; flaw = refl }

pub postfixes_tree : {text : List ℕ} {r : Text} {i j : ℕ} {inner us : Trees}
    → ArePostfixes text (Tree r i j inner us) → IsPostfix text r inner × ArePostfixes text us
postfixes_tree (more h k) = (h, k)

pub quiet_postfix : {text : List ℕ} {r : Text} {us : Trees} (i j : ℕ) (others : Trees) → IsPostfix text r us
    → own_flaw text r i j us others ≡ None
unfolding own_flaw
quiet_postfix i j others opt = refl
quiet_postfix i j others rep = refl
quiet_postfix i j others rep_once = refl
quiet_postfix i j others (counted (exact n)) = refl
quiet_postfix i j others (counted (min n)) = refl
quiet_postfix i j others (counted (max n)) = refl
quiet_postfix i j others (counted (min_max m n)) = refl
