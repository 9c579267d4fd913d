-- The rules of the meta-grammar by their names, and the names that are builtins'.
use Rattle.std.proofs.Common.{◌≡◌, refl, Bool, true, false, ◌||◌, Some, None, bytes_eq, codes}
use Rattle.base_language.specs.Language.Expression as spec
use Rattle.base_language.specs.Language.Text.{Text}
use Rattle.base_language.specs.Language.Expression.{Ident, rule_of, whitespace, comment}
use Rattle.base_language.specs.Language.State.{Outcome, Mode, NonAtomicMode, AtomicMode, CompoundAtomicMode, Between, State, Classes}
use Rattle.base_language.specs.Language.Builtins.{One, Soi, Eoi, builtins, builtin_of}
use Rattle.base_language.specs.Language.Matching.{end_outcome, other_outcome}
use Rattle.base_language.specs.Language.Meaning.{other}
use Rattle.base_language.specs.Language.WellFormed.{HasOutcome}
use Rattle.base_language.specs.Pieces.MetaRules.{name_of}
use Rattle.base_language.specs.declared.grammar.Rule.{Rule}
use Rattle.base_language.specs.declared.grammar.Rule.TheVariants as is
use Rattle.front_grammar.specs.MetaGrammar.{meta_grammar, rule_at}
use Rattle.front_grammar.specs.Rules.{is_defined}
use Rattle.front_grammar.specs.Rules.{is_blank}

pub defined_rule : (r : Rule) → is_defined r ≡ true → rule_of meta_grammar (name_of r) ≡ Some (rule_at r)
unfolding meta_grammar
defined_rule is.EOI h = cc
defined_rule is.grammar_rules h = refl
defined_rule is.grammar_rule h = refl
defined_rule is.assignment_operator h = refl
defined_rule is.opening_brace h = refl
defined_rule is.closing_brace h = refl
defined_rule is.opening_paren h = refl
defined_rule is.closing_paren h = refl
defined_rule is.opening_brack h = refl
defined_rule is.closing_brack h = refl
defined_rule is.modifier h = refl
defined_rule is.silent_modifier h = refl
defined_rule is.atomic_modifier h = refl
defined_rule is.compound_atomic_modifier h = refl
defined_rule is.non_atomic_modifier h = refl
defined_rule is.tag_id h = refl
defined_rule is.node_tag h = refl
defined_rule is.expression h = refl
defined_rule is.term h = refl
defined_rule is.node h = refl
defined_rule is.terminal h = refl
defined_rule is.prefix_operator h = refl
defined_rule is.infix_operator h = refl
defined_rule is.postfix_operator h = refl
defined_rule is.positive_predicate_operator h = refl
defined_rule is.negative_predicate_operator h = refl
defined_rule is.sequence_operator h = refl
defined_rule is.choice_operator h = refl
defined_rule is.optional_operator h = refl
defined_rule is.repeat_operator h = refl
defined_rule is.repeat_once_operator h = refl
defined_rule is.repeat_exact h = refl
defined_rule is.repeat_min h = refl
defined_rule is.repeat_max h = refl
defined_rule is.repeat_min_max h = refl
defined_rule is.number h = refl
defined_rule is.integer h = refl
defined_rule is.comma h = refl
defined_rule is._push h = refl
defined_rule is._push_literal h = refl
defined_rule is.peek_slice h = refl
defined_rule is.identifier h = refl
defined_rule is.alpha h = refl
defined_rule is.alpha_num h = refl
defined_rule is.string h = refl
defined_rule is.insensitive_string h = refl
defined_rule is.range h = refl
defined_rule is.character h = refl
defined_rule is.inner_str h = refl
defined_rule is.inner_chr h = refl
defined_rule is.escape h = refl
defined_rule is.code h = refl
defined_rule is.unicode h = refl
defined_rule is.hex_digit h = refl
defined_rule is.quote h = refl
defined_rule is.single_quote h = refl
defined_rule is.range_operator h = refl
defined_rule is.newline h = refl
defined_rule is.WHITESPACE h = refl
defined_rule is.line_comment h = refl
defined_rule is.block_comment h = refl
defined_rule is.COMMENT h = refl
defined_rule is.space h = refl
defined_rule is.grammar_doc h = refl
defined_rule is.line_doc h = refl
defined_rule is.inner_doc h = refl

pub no_any : rule_of meta_grammar (codes "ANY") ≡ None
unfolding meta_grammar
no_any = refl

pub no_soi : rule_of meta_grammar (codes "SOI") ≡ None
unfolding meta_grammar
no_soi = refl

pub no_eoi : rule_of meta_grammar (codes "EOI") ≡ None
unfolding meta_grammar
no_eoi = refl

pub any_builtin : builtin_of (codes "ANY") ≡ Some (One (λ c. true))
unfolding builtins
any_builtin = refl

pub soi_builtin : builtin_of (codes "SOI") ≡ Some Soi
unfolding builtins
soi_builtin = refl

pub eoi_builtin : builtin_of (codes "EOI") ≡ Some Eoi
unfolding builtins
eoi_builtin = refl

pub whitespace_name : name_of is.WHITESPACE ≡ whitespace
unfolding whitespace
whitespace_name = refl

pub comment_name : name_of is.COMMENT ≡ comment
unfolding comment
comment_name = refl

pub blank_name : (r : Rule) → (bytes_eq (name_of r) whitespace || bytes_eq (name_of r) comment) ≡ is_blank r
unfolding whitespace comment
blank_name is.EOI = refl
blank_name is.grammar_rules = refl
blank_name is.grammar_rule = refl
blank_name is.assignment_operator = refl
blank_name is.opening_brace = refl
blank_name is.closing_brace = refl
blank_name is.opening_paren = refl
blank_name is.closing_paren = refl
blank_name is.opening_brack = refl
blank_name is.closing_brack = refl
blank_name is.modifier = refl
blank_name is.silent_modifier = refl
blank_name is.atomic_modifier = refl
blank_name is.compound_atomic_modifier = refl
blank_name is.non_atomic_modifier = refl
blank_name is.tag_id = refl
blank_name is.node_tag = refl
blank_name is.expression = refl
blank_name is.term = refl
blank_name is.node = refl
blank_name is.terminal = refl
blank_name is.prefix_operator = refl
blank_name is.infix_operator = refl
blank_name is.postfix_operator = refl
blank_name is.positive_predicate_operator = refl
blank_name is.negative_predicate_operator = refl
blank_name is.sequence_operator = refl
blank_name is.choice_operator = refl
blank_name is.optional_operator = refl
blank_name is.repeat_operator = refl
blank_name is.repeat_once_operator = refl
blank_name is.repeat_exact = refl
blank_name is.repeat_min = refl
blank_name is.repeat_max = refl
blank_name is.repeat_min_max = refl
blank_name is.number = refl
blank_name is.integer = refl
blank_name is.comma = refl
blank_name is._push = refl
blank_name is._push_literal = refl
blank_name is.peek_slice = refl
blank_name is.identifier = refl
blank_name is.alpha = refl
blank_name is.alpha_num = refl
blank_name is.string = refl
blank_name is.insensitive_string = refl
blank_name is.range = refl
blank_name is.character = refl
blank_name is.inner_str = refl
blank_name is.inner_chr = refl
blank_name is.escape = refl
blank_name is.code = refl
blank_name is.unicode = refl
blank_name is.hex_digit = refl
blank_name is.quote = refl
blank_name is.single_quote = refl
blank_name is.range_operator = refl
blank_name is.newline = refl
blank_name is.WHITESPACE = refl
blank_name is.line_comment = refl
blank_name is.block_comment = refl
blank_name is.COMMENT = refl
blank_name is.space = refl
blank_name is.grammar_doc = refl
blank_name is.line_doc = refl
blank_name is.inner_doc = refl

pub undefined : (r : Rule) → is_defined r ≡ false → r ≡ is.EOI
undefined is.EOI h = refl
undefined _ h = cc

-- what the name of the end does, which is no rule's
end_does : (classes : Classes) (m : Mode) (s : State) → (o : Outcome) × (other_outcome classes m (codes "EOI") s ≡ Some o)
end_does classes NonAtomicMode s = (end_outcome NonAtomicMode s.rest s, rw eoi_builtin refl)
end_does classes AtomicMode s = (end_outcome AtomicMode s.rest s, rw eoi_builtin refl)
end_does classes CompoundAtomicMode s = (end_outcome CompoundAtomicMode s.rest s, rw eoi_builtin refl)
end_does classes Between s = (_, refl)

module _ (classes : Classes) (m : Mode) (s : State) (rules_end : (n : Text) (q : spec.Rule) → rule_of meta_grammar n ≡ Some q → HasOutcome meta_grammar classes (Ident n) m s) where
  end_ends : HasOutcome meta_grammar classes (Ident (codes "EOI")) m s
  end_ends = let e = end_does classes m s in (e.0, other no_eoi e.1)

  name_ends : (r : Rule) (b : Bool) → is_defined r ≡ b → HasOutcome meta_grammar classes (Ident (name_of r)) m s
  name_ends r true h = rules_end (name_of r) (rule_at r) (defined_rule r h)
  name_ends r false h = rw (undefined r h) end_ends

  pub each_ends : (r : Rule) → HasOutcome meta_grammar classes (Ident (name_of r)) m s
  each_ends r = name_ends r (is_defined r) refl
