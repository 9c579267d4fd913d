-- What each rule's body yields makes the shape of its trees.
use Rattle.std.proofs.Common.{◌≡◌, refl, ℕ, List, inl, inr, Bool, true, false, if◌then◌else◌, codes}
use Rattle.base_language.specs.Language.Text.{Text}
use Rattle.base_language.specs.Language.Expression.{RuleType, Silent}
use Rattle.base_language.specs.Language.State.{Trees, None', Tree, joined}
use Rattle.base_language.specs.Pieces.MetaRules.{name_of}
use Rattle.base_language.specs.declared.grammar.Rule.{Rule}
use Rattle.base_language.specs.declared.grammar.Rule.TheVariants as is
use Rattle.base_language.proofs.Steps.{joined_assoc}
use Rattle.front_grammar.specs.MetaGrammar.{type_of_rule}
use Rattle.front_grammar.specs.Rules.{is_defined}
use Rattle.front_grammar.specs.Shape as shape
use Rattle.front_grammar.specs.Shape.{IsPrefix, IsInfix, IsPostfix, ArePostfixes, IsExpression, AreTerms, IsMore, IsTerm, IsRule, AreGrammarTrees}
use Rattle.front_grammar.proofs.Naming.{rule_named}
use Rattle.front_grammar.proofs.Yields.{IsNone, none, Both, both, Many, no_more, also, IsLone, lone, IsPlaced, placed, IsLoneOf, lone_of, IsTree, tree, IsTreeOf, tree_of, is_dark, Holds, Inside, Stretches}

-- whether a rule of a type gives a token where tokens are seen
abbrev pub shows : RuleType → Bool
shows Silent = false
shows _ = true

marked : {n : Text} {i j : ℕ} {us : Trees} → IsNone us → IsLone n (Tree n i j us None')
marked none = lone

module _ (text : List ℕ) where
  placed_at : {n : Text} {P : ℕ → ℕ → Type 0} {i j : ℕ} {us : Trees} → P i j → IsNone us → IsPlaced n P (Tree n i j us None')
  placed_at p none = placed p

  abbrev Expressions : Trees → Type 0
  Expressions us = IsTree (codes "expression") (IsExpression text) us

  abbrev Terms : Trees → Type 0
  Terms us = IsTree (codes "term") (IsTerm text) us

  more_of : {us : Trees} → Many (Both (IsLoneOf IsInfix) Terms) us → IsMore text us
  more_of no_more = shape.no_more
  more_of (also (both (lone_of k) (tree t)) m) = shape.infix_operator k (shape.terms t (more_of m))

  chain_of : {us vs : Trees} → Terms us → Many (Both (IsLoneOf IsInfix) Terms) vs → AreTerms text (joined us vs)
  chain_of (tree t) m = shape.terms t (more_of m)

  postfixes : {us : Trees} → Many (IsTreeOf (IsPostfix text)) us → ArePostfixes text us
  postfixes no_more = shape.done
  postfixes (also (tree_of k) m) = shape.more k (postfixes m)

  operand : {us vs : Trees} → Holds text is.node us → Many (IsTreeOf (IsPostfix text)) vs → IsTerm text (joined us vs)
  operand (inl (both (both lone (tree e)) lone)) m = shape.grouped e (postfixes m)
  operand (inr (tree_of n)) m = shape.bare n (postfixes m)

  prefixed : {us vs : Trees} → Many (IsLoneOf IsPrefix) us → IsTerm text vs → IsTerm text (joined us vs)
  prefixed no_more t = t
  prefixed (also (lone_of k) m) t = shape.predicate k (prefixed m t)

  untagged : (us vs ws : Trees) → Many (IsLoneOf IsPrefix) us → Holds text is.node vs → Many (IsTreeOf (IsPostfix text)) ws → IsTerm text (joined (joined us vs) ws)
  untagged us vs ws a b c = rw (joined_assoc us vs ws) (prefixed a (operand b c))

  docs_before : {us vs : Trees} → Many (IsTree (codes "grammar_doc") (IsLone (codes "inner_doc"))) us → AreGrammarTrees text vs → AreGrammarTrees text (joined us vs)
  docs_before no_more g = g
  docs_before (also (tree lone) m) g = shape.grammar_doc (docs_before m g)

  rules_before : {us vs : Trees} → Many (IsTree (codes "grammar_rule") (IsRule text)) us → AreGrammarTrees text vs → AreGrammarTrees text (joined us vs)
  rules_before no_more g = g
  rules_before (also (tree r) m) g = shape.grammar_rule r (rules_before m g)

  grammar_of : (us vs ws xs : Trees) → IsNone us → Many (IsTree (codes "grammar_doc") (IsLone (codes "inner_doc"))) vs → Many (IsTree (codes "grammar_rule") (IsRule text)) ws
      → IsLone (codes "EOI") xs → AreGrammarTrees text (joined (joined (joined us vs) ws) xs)
  grammar_of us vs ws xs none docs rules lone = rw (joined_assoc vs ws _) (docs_before docs (rules_before rules shape.end_of_input))

  pub closed : (r : Rule) (i j : ℕ) (us : Trees) → is_defined r ≡ true → Stretches text r i j → Inside text (is_dark r) r us
      → Holds text r (if shows (type_of_rule r) then Tree (name_of r) i j us None' else us)
  unfolding rule_named
  closed is.EOI i j us d p h = cc
  closed is.grammar_rules i j us d p (both (both (both s docs) rules) e) = grammar_of _ _ _ _ (s refl) docs rules e
  closed is.grammar_rule i j us d p (inl (both (both (both (both (both lone lone) (inl none)) lone) (tree e)) lone)) = tree (shape.normal e)
  closed is.grammar_rule i j us d p (inl (both (both (both (both (both lone lone) (inr (lone_of k))) lone) (tree e)) lone)) = tree (shape.modified k e)
  closed is.grammar_rule i j us d p (inr (tree lone)) = tree shape.line_doc
  closed is.modifier i j us d p (inl (inl (inl lone))) = lone_of shape.silent
  closed is.modifier i j us d p (inl (inl (inr lone))) = lone_of shape.atomic
  closed is.modifier i j us d p (inl (inr lone)) = lone_of shape.compound_atomic
  closed is.modifier i j us d p (inr lone) = lone_of shape.non_atomic
  closed is.node_tag i j us d p h = h
  closed is.expression i j us d p (both (both (inl none) t) m) = tree (shape.unbarred (chain_of t m))
  closed is.expression i j us d p (both (both (inr lone) t) m) = tree (shape.barred (chain_of t m))
  closed is.term i j us d p (both (both (both (inl none) a) b) c) = tree (untagged _ _ _ a b c)
  closed is.term i j us d p (both (both (both (inr (both lone lone)) a) b) c) = tree (shape.tagged (untagged _ _ _ a b c))
  closed is.node i j us d p h = h
  closed is.terminal i j us d p (inl (inl (inl (inl (inl (inl (tree t))))))) = tree_of (shape.terminal t)
  closed is.terminal i j us d p (inl (inl (inl (inl (inl (inr (tree n))))))) = tree_of n
  closed is.terminal i j us d p (inl (inl (inl (inl (inr (tree s)))))) = tree_of (shape.terminal (shape.slice s))
  closed is.terminal i j us d p (inl (inl (inl (inr lone)))) = tree_of (shape.terminal shape.identifier)
  closed is.terminal i j us d p (inl (inl (inr (tree q)))) = tree_of (shape.terminal (shape.string q))
  closed is.terminal i j us d p (inl (inr (tree t))) = tree_of (shape.terminal t)
  closed is.terminal i j us d p (inr (tree t)) = tree_of (shape.terminal t)
  closed is.prefix_operator i j us d p (inl lone) = lone_of shape.positive
  closed is.prefix_operator i j us d p (inr lone) = lone_of shape.negative
  closed is.infix_operator i j us d p (inl lone) = lone_of shape.tilde
  closed is.infix_operator i j us d p (inr lone) = lone_of shape.bar
  closed is.postfix_operator i j us d p (inl (inl (inl (inl (inl (inl lone)))))) = tree_of shape.opt
  closed is.postfix_operator i j us d p (inl (inl (inl (inl (inl (inr lone)))))) = tree_of shape.rep
  closed is.postfix_operator i j us d p (inl (inl (inl (inl (inr lone))))) = tree_of shape.rep_once
  closed is.postfix_operator i j us d p (inl (inl (inl (inr (tree k))))) = tree_of (shape.counted k)
  closed is.postfix_operator i j us d p (inl (inl (inr (tree k)))) = tree_of (shape.counted k)
  closed is.postfix_operator i j us d p (inl (inr (tree k))) = tree_of (shape.counted k)
  closed is.postfix_operator i j us d p (inr (tree k)) = tree_of (shape.counted k)
  closed is.repeat_exact i j us d p (both (both lone (placed k)) lone) = tree (shape.exact k)
  closed is.repeat_min i j us d p (both (both (both lone (placed k)) lone) lone) = tree (shape.min k)
  closed is.repeat_max i j us d p (both (both (both lone lone) (placed k)) lone) = tree (shape.max k)
  closed is.repeat_min_max i j us d p (both (both (both (both lone (placed k)) lone) (placed l)) lone) = tree (shape.min_max k l)
  closed is.number i j us d p h = placed_at p h
  closed is.integer i j us d p h = placed_at p h
  closed is._push i j us d p (both (both (both none lone) (tree e)) lone) = tree (shape.pushed e)
  closed is._push_literal i j us d p (both (both (both none lone) (tree q)) lone) = tree (shape.push_literal q)
  closed is.peek_slice i j us d p (both (both (both (both (both none lone) (inl none)) lone) (inl none)) lone) = tree (shape.in_brackets (shape.open_start shape.open_end))
  closed is.peek_slice i j us d p (both (both (both (both (both none lone) (inl none)) lone) (inr (placed l))) lone) = tree (shape.in_brackets (shape.open_start (shape.up_to l)))
  closed is.peek_slice i j us d p (both (both (both (both (both none lone) (inr (placed k))) lone) (inl none)) lone) = tree (shape.in_brackets (shape.from k shape.open_end))
  closed is.peek_slice i j us d p (both (both (both (both (both none lone) (inr (placed k))) lone) (inr (placed l))) lone) = tree (shape.in_brackets (shape.from k (shape.up_to l)))
  closed is.string i j us d p (both (both lone lone) lone) = tree shape.in_quotes
  closed is.insensitive_string i j us d p (both none (tree q)) = tree (shape.insensitive q)
  closed is.range i j us d p (both (both (tree a) lone) (tree b)) = tree (shape.range a b)
  closed is.character i j us d p (both (both lone lone) lone) = tree shape.in_single_quotes
  closed is.grammar_doc i j us d p (both (both none (inl none)) lone) = tree lone
  closed is.grammar_doc i j us d p (both (both none (inr none)) lone) = tree lone
  closed is.line_doc i j us d p (both (both none (inl none)) lone) = tree lone
  closed is.line_doc i j us d p (both (both none (inr none)) lone) = tree lone
  closed is.WHITESPACE i j us d p h = h
  closed is.COMMENT i j us d p h = h
  closed is.space i j us d p (inl none) = none
  closed is.space i j us d p (inr none) = none
  closed is.alpha i j us d p h = tt
  closed is.alpha_num i j us d p h = tt
  closed is.newline i j us d p h = tt
  closed is.line_comment i j us d p h = tt
  closed is.block_comment i j us d p h = tt
  closed _ i j us d p h = marked h
