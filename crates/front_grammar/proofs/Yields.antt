-- Which trees an expression of the meta-grammar may yield, where tokens are seen.
use Rattle.std.proofs.Common.{◌≡◌, ℕ, List, ◌⊎◌, Bool, true, false, ◌||◌, Option, Some, None, codes}
use Rattle.base_language.specs.Language.Text.{Text}
use Rattle.base_language.specs.Language.Expression.{Expression, Str, Range, Ident, NegPred, Seq, Choice, Opt, Rep, RuleType, Atomic}
use Rattle.base_language.specs.Language.State.{Trees, None', Tree, joined}
use Rattle.base_language.specs.Pieces.MetaRules.{name_of}
use Rattle.base_language.specs.declared.grammar.Rule.{Rule}
use Rattle.base_language.specs.declared.grammar.Rule.TheVariants as is
use Rattle.front_grammar.specs.MetaGrammar.{type_of_rule, body_of}
use Rattle.front_grammar.specs.Rules.{is_blank}
use Rattle.front_grammar.specs.Shape.{Lone, IsNumber, IsInteger, IsPrefix, IsInfix, IsModifier, IsQuoted, IsCounted, IsPostfix, IsSlice, IsTerminal, IsExpression, IsTerm, IsNode, IsRule, AreGrammarTrees}
use Rattle.front_grammar.proofs.Naming.{rule_named}

-- no trees; some and then others; any number
pub data IsNone : Trees → Type 0 where
  none : IsNone None'

pub data Both (P Q : Trees → Type 0) : Trees → Type 0 where
  both : {us vs : Trees} → P us → Q vs → Both P Q (joined us vs)

pub data Many (P : Trees → Type 0) : Trees → Type 0 where
  no_more : Many P None'
  also : {us vs : Trees} → P us → Many P vs → Many P (joined us vs)

-- one tree that holds none: of a rule, with places that are P, or of a rule that is P
pub data IsLone (n : Text) : Trees → Type 0 where
  lone : {i j : ℕ} → IsLone n (Lone n i j None')

pub data IsPlaced (n : Text) (P : ℕ → ℕ → Type 0) : Trees → Type 0 where
  placed : {i j : ℕ} → P i j → IsPlaced n P (Lone n i j None')

pub data IsLoneOf (P : Text → Type 0) : Trees → Type 0 where
  lone_of : {r : Text} {i j : ℕ} → P r → IsLoneOf P (Lone r i j None')

-- one tree that holds what is P: of a rule, or of any
pub data IsTree (n : Text) (P : Trees → Type 0) : Trees → Type 0 where
  tree : {i j : ℕ} {us : Trees} → P us → IsTree n P (Tree n i j us None')

pub data IsTreeOf (P : Text → Trees → Type 0) : Trees → Type 0 where
  tree_of : {r : Text} {i j : ℕ} {us : Trees} → P r us → IsTreeOf P (Tree r i j us None')

-- whether the body of a rule runs in Atomic wherever it is called
abbrev is_atomic : RuleType → Bool
is_atomic Atomic = true
is_atomic _ = false

abbrev pub is_dark : Rule → Bool
is_dark r = is_blank r || is_atomic (type_of_rule r)

module _ (text : List ℕ) where
  -- what a call of a rule yields
  abbrev pub Holds : Rule → Trees → Type 0
  Holds is.grammar_rules us = AreGrammarTrees text us
  Holds is.grammar_rule us = IsTree (codes "grammar_rule") (IsRule text) us
  Holds is.modifier us = IsLoneOf IsModifier us
  Holds is.node_tag us = Both (IsLone (codes "tag_id")) (IsLone (codes "assignment_operator")) us
  Holds is.expression us = IsTree (codes "expression") (IsExpression text) us
  Holds is.term us = IsTree (codes "term") (IsTerm text) us
  Holds is.node us = Both (Both (IsLone (codes "opening_paren")) (IsTree (codes "expression") (IsExpression text))) (IsLone (codes "closing_paren")) us ⊎ IsTreeOf (IsNode text) us
  Holds is.terminal us = IsTreeOf (IsNode text) us
  Holds is.prefix_operator us = IsLoneOf IsPrefix us
  Holds is.infix_operator us = IsLoneOf IsInfix us
  Holds is.postfix_operator us = IsTreeOf (IsPostfix text) us
  Holds is.repeat_exact us = IsTree (codes "repeat_exact") (IsCounted text (codes "repeat_exact")) us
  Holds is.repeat_min us = IsTree (codes "repeat_min") (IsCounted text (codes "repeat_min")) us
  Holds is.repeat_max us = IsTree (codes "repeat_max") (IsCounted text (codes "repeat_max")) us
  Holds is.repeat_min_max us = IsTree (codes "repeat_min_max") (IsCounted text (codes "repeat_min_max")) us
  Holds is.number us = IsPlaced (codes "number") (IsNumber text) us
  Holds is.integer us = IsPlaced (codes "integer") (IsInteger text) us
  Holds is._push us = IsTree (codes "_push") (IsNode text (codes "_push")) us
  Holds is._push_literal us = IsTree (codes "_push_literal") (IsTerminal text (codes "_push_literal")) us
  Holds is.peek_slice us = IsTree (codes "peek_slice") (IsSlice text) us
  Holds is.string us = IsTree (codes "string") IsQuoted us
  Holds is.insensitive_string us = IsTree (codes "insensitive_string") (IsTerminal text (codes "insensitive_string")) us
  Holds is.range us = IsTree (codes "range") (IsTerminal text (codes "range")) us
  Holds is.character us = IsTree (codes "character") IsQuoted us
  Holds is.grammar_doc us = IsTree (codes "grammar_doc") (IsLone (codes "inner_doc")) us
  Holds is.line_doc us = IsTree (codes "line_doc") (IsLone (codes "inner_doc")) us
  Holds is.WHITESPACE us = IsNone us
  Holds is.COMMENT us = IsNone us
  Holds is.space us = IsNone us
  Holds is.alpha us = Unit {0}
  Holds is.alpha_num us = Unit {0}
  Holds is.newline us = Unit {0}
  Holds is.line_comment us = Unit {0}
  Holds is.block_comment us = Unit {0}
  Holds r us = IsLone (name_of r) us

  -- a name that is no rule's yields nothing at the start
  abbrev pub Named : Option Rule → Text → Trees → Type 0
  Named (Some r) n us = Holds r us
  Named None n us = n ≡ codes "SOI" → IsNone us

  -- what an expression yields
  abbrev pub Yields : Expression → Trees → Type 0
  Yields (Str t) us = IsNone us
  Yields (Range a b) us = IsNone us
  Yields (Ident n) us = Named (rule_named n) n us
  Yields (NegPred e) us = IsNone us
  Yields (Seq a b) us = Both (Yields a) (Yields b) us
  Yields (Choice a b) us = Yields a us ⊎ Yields b us
  Yields (Opt e) us = IsNone us ⊎ Yields e us
  Yields (Rep e) us = Many (Yields e) us
  Yields _ us = Unit {0}

  -- what the body of a rule yields: nothing, if it runs in Atomic
  abbrev pub Inside : Bool → Rule → Trees → Type 0
  Inside true r us = IsNone us
  Inside false r us = Yields (body_of r) us

  -- what stands under the token of a number
  abbrev pub Stretches : Rule → ℕ → ℕ → Type 0
  Stretches is.number i j = IsNumber text i j
  Stretches is.integer i j = IsInteger text i j
  Stretches _ i j = Unit {0}
