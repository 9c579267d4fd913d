-- Rules, by the trees in them.
use Rattle.std.proofs.Common.{◌≡◌, ℕ, List, [], ◌∷◌, ◌++◌, Some, None, refl, sym, ap}
use Rattle.std.specs.Prelude.{codes}
use Rattle.std.specs.Option.{option_or}
use Rattle.base_language.specs.Language.Text.{Text}
use Rattle.base_language.specs.Language.State.{Trees, None', Tree}
use Rattle.base_language.specs.Language.Expression.{RuleType, Normal, Silent, Atomic, CompoundAtomic, NonAtomic}
use Rattle.front_reader.specs.Flaws.{first_flaw, own_flaw}
use Rattle.front_reader.specs.Pieces.{AreInText}
use Rattle.front_reader.specs.Reading as reading
use Rattle.front_reader.specs.Reading.{Reads, AnExpression, ReadsRule, ReadsRules, Modifies, characters_between}
use Rattle.base_language.specs.Pieces.MetaRules.{name_of}
use Rattle.front_grammar.specs.Shape.{Lone, IsRule, AreGrammarTrees, IsExpression, line_doc, normal, modified, silent, atomic, compound_atomic, non_atomic, end_of_input, grammar_doc, grammar_rule}
use Rattle.front_spanned.specs.Spanned.{Spanned, SpannedRule}
use Rattle.front_spanned.specs.declared.node.ParserRule.{ParserRule}
use Rattle.front_reader.specs.Views.{MayBeModifier, a_modifier, the_brace, TakesModifier, a_type, no_type}
use Rattle.front_spanned.specs.Nodes.{rule_view, rule_views}
use Rattle.base_language.specs.declared.grammar.Rule.{Rule}
use Rattle.base_language.specs.declared.grammar.Rule.TheVariants as rule_is
use Rattle.front_reader.proofs.FlawsInOrder.{or_none}
use Rattle.front_reader.proofs.TreesStandInText.{stand_behind}
use Rattle.base_language.proofs.MetaNames.{name_of-injective}
use Rattle.base_language.specs.Pieces.Saying.{piece}

-- modifiers

pub silent_tree : {i j : ℕ} {inner us : Trees} → MayBeModifier (Tree (codes "silent_modifier") i j inner us)
    → TakesModifier (Tree (codes "silent_modifier") i j inner us) Silent us
silent_tree (a_modifier h) = a_type reading.silent

pub atomic_tree : {i j : ℕ} {inner us : Trees} → MayBeModifier (Tree (codes "atomic_modifier") i j inner us)
    → TakesModifier (Tree (codes "atomic_modifier") i j inner us) Atomic us
atomic_tree (a_modifier h) = a_type reading.atomic

pub compound_atomic_tree : {i j : ℕ} {inner us : Trees}
    → MayBeModifier (Tree (codes "compound_atomic_modifier") i j inner us)
    → TakesModifier (Tree (codes "compound_atomic_modifier") i j inner us) CompoundAtomic us
compound_atomic_tree (a_modifier h) = a_type reading.compound_atomic

pub non_atomic_tree : {i j : ℕ} {inner us : Trees}
    → MayBeModifier (Tree (codes "non_atomic_modifier") i j inner us)
    → TakesModifier (Tree (codes "non_atomic_modifier") i j inner us) NonAtomic us
non_atomic_tree (a_modifier h) = a_type reading.non_atomic

pub no_modifier : {n : Text} {i j : ℕ} {inner us : Trees} (r : Rule) → MayBeModifier (Tree n i j inner us)
    → n ≡ name_of r → ¬ (r ≡ rule_is.silent_modifier) → ¬ (r ≡ rule_is.atomic_modifier)
    → ¬ (r ≡ rule_is.compound_atomic_modifier) → ¬ (r ≡ rule_is.non_atomic_modifier)
    → TakesModifier (Tree n i j inner us) Normal (Tree n i j inner us)
no_modifier r (a_modifier silent) e a b c d = absurd (a (name_of-injective r rule_is.silent_modifier (sym e)))
no_modifier r (a_modifier atomic) e a b c d = absurd (b (name_of-injective r rule_is.atomic_modifier (sym e)))
no_modifier r (a_modifier compound_atomic) e a b c d = absurd (c (name_of-injective r rule_is.compound_atomic_modifier (sym e)))
no_modifier r (a_modifier non_atomic) e a b c d = absurd (d (name_of-injective r rule_is.non_atomic_modifier (sym e)))
no_modifier r the_brace e a b c d = no_type

pub modifier_standing : {text : List ℕ} {us vs : Trees} {t : RuleType} → AreInText text us
    → TakesModifier us t vs → AreInText text vs
modifier_standing s (a_type m) = stand_behind s
modifier_standing s no_type = s

-- rules

pub no_rule : {text : List ℕ} → IsRule text None' → ⊥
no_rule h = elim h [ ]

pub lone_name : {text : List ℕ} {i j : ℕ} {inner : Trees}
    → IsRule text (Tree (codes "identifier") i j inner None') → ⊥
lone_name h = elim h [ ]

pub may_be_modifier : {text : List ℕ} {n : Text} {i j k l : ℕ} {inner vs us : Trees}
    → IsRule text (Tree (codes "identifier") i j inner (Tree n k l vs us)) → MayBeModifier us
may_be_modifier (normal h) = the_brace
may_be_modifier (modified m h) = a_modifier m

pub no_brace : {text : List ℕ} {n : Text} {i j k l : ℕ} {inner vs us : Trees} {t : RuleType}
    → IsRule text (Tree (codes "identifier") i j inner (Tree n k l vs us)) → TakesModifier us t None' → ⊥
no_brace (normal h) d = elim d [ ]
no_brace (modified m h) d = elim d [ ]

pub no_body : {text : List ℕ} {n o : Text} {i j k l a b : ℕ} {inner vs us ws : Trees} {t : RuleType}
    → IsRule text (Tree (codes "identifier") i j inner (Tree n k l vs us))
    → TakesModifier us t (Tree o a b ws None') → ⊥
no_body (normal h) d = elim d [ ]
no_body (modified m h) d = elim d [ ]

-- a rule whose body is known
pub record HasBody (text : List ℕ) (i j : ℕ) (us : Trees) (t : RuleType) (body : Trees) : Type 0 where
  pub inside : IsExpression text body
  pub flaw : first_flaw text us ≡ first_flaw text body
  pub reads : (x : Spanned) → Reads text AnExpression body x → ReadsRule text us
      (Some (record { name = characters_between text i j; span = piece text i j; type_of = t; body = x }))

pub rule_body : {text : List ℕ} {n o p : Text} {i j k l a b c d : ℕ}
    {inner vs us ws body ys : Trees} {t : RuleType}
    → IsRule text (Tree (codes "identifier") i j inner (Tree n k l vs us))
    → TakesModifier us t (Tree o a b ws (Tree p c d body ys))
    → HasBody text i j (Tree (codes "identifier") i j inner (Tree n k l vs us)) t body
unfolding own_flaw
rule_body {text} {body = body} (normal h) no_type = record { inside = h; flaw = or_none (first_flaw text body); reads = λ x d. reading.normal d }
rule_body (normal h) (a_type m) = elim m [ ]
rule_body {text} {body = body} (modified silent h) (a_type m) = record { inside = h; flaw = or_none (first_flaw text body); reads = λ x d. reading.modified m d }
rule_body {text} {body = body} (modified atomic h) (a_type m) = record { inside = h; flaw = or_none (first_flaw text body); reads = λ x d. reading.modified m d }
rule_body {text} {body = body} (modified compound_atomic h) (a_type m) = record { inside = h; flaw = or_none (first_flaw text body); reads = λ x d. reading.modified m d }
rule_body {text} {body = body} (modified non_atomic h) (a_type m) = record { inside = h; flaw = or_none (first_flaw text body); reads = λ x d. reading.modified m d }

-- a comment in place of a rule
pub comment_rule : {text : List ℕ} {n : Text} {i j : ℕ} {inner us : Trees} (r : Rule)
    → IsRule text (Tree n i j inner us) → n ≡ name_of r → ¬ (r ≡ rule_is.identifier)
    → (first_flaw text (Tree n i j inner us) ≡ None) × ReadsRule text (Tree n i j inner us) None
unfolding own_flaw
comment_rule r line_doc e d = (refl, reading.line_doc)
comment_rule r (normal h) e d = absurd (d (name_of-injective r rule_is.identifier (sym e)))
comment_rule r (modified m h) e d = absurd (d (name_of-injective r rule_is.identifier (sym e)))

-- what is left of a text: nothing, or trees of rules
pub data IsLeft (text : List ℕ) : Trees → Type 0 where
  none_left : IsLeft text None'
  left : {us : Trees} → AreGrammarTrees text us → IsLeft text us

pub data ReadsLeft (text : List ℕ) : Trees → List SpannedRule → Type 0 where
  nothing : ReadsLeft text None' []
  rules_of : {us : Trees} {rs : List SpannedRule} → ReadsRules text us rs → ReadsLeft text us rs

-- a rule, or a comment in its place, in front of what is left
pub record RuleFirst (text : List ℕ) (us inner others : Trees) : Type 0 where
  pub inside : IsRule text inner
  pub behind : IsLeft text others
  pub flaw : first_flaw text us ≡ option_or (first_flaw text inner) (first_flaw text others)
  pub comment : ReadsRule text inner None → (rs : List SpannedRule) → ReadsLeft text others rs
      → ReadsLeft text us rs
  pub definition : (r : SpannedRule) → ReadsRule text inner (Some r) → (rs : List SpannedRule)
      → ReadsLeft text others rs → ReadsLeft text us (r ∷ rs)

with_comment : {text : List ℕ} {i j : ℕ} {inner us : Trees} {rs : List SpannedRule} → AreGrammarTrees text us
    → ReadsRule text inner None → ReadsLeft text us rs
    → ReadsLeft text (Tree (codes "grammar_rule") i j inner us) rs
with_comment g d nothing = elim g [ ]
with_comment g d (rules_of e) = rules_of (reading.documented d e)

with_definition : {text : List ℕ} {i j : ℕ} {inner us : Trees} {r : SpannedRule} {rs : List SpannedRule}
    → AreGrammarTrees text us → ReadsRule text inner (Some r) → ReadsLeft text us rs
    → ReadsLeft text (Tree (codes "grammar_rule") i j inner us) (r ∷ rs)
with_definition g d nothing = elim g [ ]
with_definition g d (rules_of e) = rules_of (reading.defined d e)

pub rule_first : {text : List ℕ} {i j : ℕ} {inner us : Trees}
    → IsLeft text (Tree (codes "grammar_rule") i j inner us)
    → RuleFirst text (Tree (codes "grammar_rule") i j inner us) inner us
unfolding own_flaw
rule_first (left (grammar_rule h k)) = record { inside = h; behind = left k; flaw = refl; comment = λ d rs e. with_comment k d e; definition = λ r d rs e. with_definition k d e }

-- another tree in front: a comment that documents the text, or its end
pub record OtherFirst (text : List ℕ) (us others : Trees) : Type 0 where
  pub behind : IsLeft text others
  pub flaw : first_flaw text us ≡ first_flaw text others
  pub reads : (rs : List SpannedRule) → ReadsLeft text others rs → ReadsLeft text us rs

at_end : {text : List ℕ} {i j : ℕ} {rs : List SpannedRule} → ReadsLeft text None' rs
    → ReadsLeft text (Lone (codes "EOI") i j None') rs
at_end nothing = rules_of reading.end_of_input
at_end (rules_of d) = elim d [ ]

with_doc : {text : List ℕ} {i j : ℕ} {inner us : Trees} {rs : List SpannedRule} → AreGrammarTrees text us
    → ReadsLeft text us rs → ReadsLeft text (Tree (codes "grammar_doc") i j inner us) rs
with_doc g nothing = elim g [ ]
with_doc g (rules_of d) = rules_of (reading.grammar_doc d)

pub other_first : {text : List ℕ} {n : Text} {i j : ℕ} {inner us : Trees} (r : Rule)
    → IsLeft text (Tree n i j inner us) → n ≡ name_of r → ¬ (r ≡ rule_is.grammar_rule)
    → OtherFirst text (Tree n i j inner us) us
unfolding own_flaw
other_first r (left end_of_input) e d = record { behind = none_left; flaw = refl; reads = λ rs k. at_end k }
other_first r (left (grammar_doc h)) e d = record { behind = left h; flaw = refl; reads = λ rs k. with_doc h k }
other_first r (left (grammar_rule h k)) e d = absurd (d (name_of-injective r rule_is.grammar_rule (sym e)))

-- one rule more
pub rule_views-push : (xs : List ParserRule) (x : ParserRule) (rs : List SpannedRule)
    → rule_views (xs ++ x ∷ []) ++ rs ≡ rule_views xs ++ (rule_view x ∷ rs)
rule_views-push [] x rs = refl
rule_views-push (y ∷ xs) x rs = ap (λ ys. rule_view y ∷ ys) (rule_views-push xs x rs)

pub init_reads : {text : List ℕ} {us : Trees} {rs : List SpannedRule} → AreGrammarTrees text us
    → ReadsLeft text us rs → ReadsRules text us rs
init_reads g nothing = elim g [ ]
init_reads g (rules_of d) = d
