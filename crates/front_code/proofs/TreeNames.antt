-- The rules of the trees of an outcome have numbers.
use Rattle.std.proofs.Common.{◌≡◌, refl, sym, ap, subst, ℕ, Bool, true, false, ◌==◌, ◌<◌, List, [], ◌∷◌, None, Some, Option, codes, length, nat_eq, arith, if◌then◌else◌}
use Rattle.std.specs.Char.{eq_ignore_ascii_case}
use Rattle.std.specs.Prelude.{⊤}
use Rattle.base_language.specs.Language.Builtins.{Builtin, Drop, Eoi, Newline, One, Peek, PeekAll, Pop, PopAll, Property, Soi, builtin_of}
use Rattle.base_language.specs.Language.Expression as spec
use Rattle.base_language.specs.Language.Expression.{rule_of}
use Rattle.base_language.specs.Language.Matching.{begins, builtin_outcome, character_outcome, concatenated, drop_outcome, end_outcome, end_place, named_outcome, other_outcome, peek_outcome, place, pop_outcome, range_set, slice_at, starts_in, text_outcome, with_stack}
use Rattle.base_language.specs.Language.Meaning.{Does, Task, ahead, atomic, between, call, compound_atomic, gives_token, insens, left, neg_pred, not_ahead, opt, opt_none, other, pos_pred, push, push_literal, pushed, range, rep, rep_exact, rep_max, rep_min, rep_min_max, rep_none, rep_once, restore, right, seq, seq_first, seq_second, skip, skips, slice, str, tag, turn, turn_none, with_token}
use Rattle.base_language.specs.Language.State.{AtomicMode, Between, Classes, CompoundAtomicMode, Failure, Mode, NonAtomicMode, None', Outcome, State, Success, Tree, Trees, joined, moved}
use Rattle.base_language.specs.Language.Text.{Text}
use Rattle.base_language.specs.Pieces.MetaRules.{name_of}
use Rattle.base_language.specs.declared.grammar.Rule.{Rule}
use Rattle.base_language.specs.declared.grammar.Rule.TheVariants as is
use Rattle.front_grammar.specs.MetaGrammar.{meta_grammar, rule_at, type_of_rule}
use Rattle.front_grammar.proofs.MetaWellFormed.{known}
use Rattle.front_code.specs.Numbers.{AreNumbered, number_of, rule_numbered}

pub same_rule : (r : Rule) → rule_numbered (number_of (name_of r)) ≡ r
same_rule is.EOI = refl
same_rule is.grammar_rules = refl
same_rule is.grammar_rule = refl
same_rule is.assignment_operator = refl
same_rule is.opening_brace = refl
same_rule is.closing_brace = refl
same_rule is.opening_paren = refl
same_rule is.closing_paren = refl
same_rule is.opening_brack = refl
same_rule is.closing_brack = refl
same_rule is.modifier = refl
same_rule is.silent_modifier = refl
same_rule is.atomic_modifier = refl
same_rule is.compound_atomic_modifier = refl
same_rule is.non_atomic_modifier = refl
same_rule is.tag_id = refl
same_rule is.node_tag = refl
same_rule is.expression = refl
same_rule is.term = refl
same_rule is.node = refl
same_rule is.terminal = refl
same_rule is.prefix_operator = refl
same_rule is.infix_operator = refl
same_rule is.postfix_operator = refl
same_rule is.positive_predicate_operator = refl
same_rule is.negative_predicate_operator = refl
same_rule is.sequence_operator = refl
same_rule is.choice_operator = refl
same_rule is.optional_operator = refl
same_rule is.repeat_operator = refl
same_rule is.repeat_once_operator = refl
same_rule is.repeat_exact = refl
same_rule is.repeat_min = refl
same_rule is.repeat_max = refl
same_rule is.repeat_min_max = refl
same_rule is.number = refl
same_rule is.integer = refl
same_rule is.comma = refl
same_rule is._push = refl
same_rule is._push_literal = refl
same_rule is.peek_slice = refl
same_rule is.identifier = refl
same_rule is.alpha = refl
same_rule is.alpha_num = refl
same_rule is.string = refl
same_rule is.insensitive_string = refl
same_rule is.range = refl
same_rule is.character = refl
same_rule is.inner_str = refl
same_rule is.inner_chr = refl
same_rule is.escape = refl
same_rule is.code = refl
same_rule is.unicode = refl
same_rule is.hex_digit = refl
same_rule is.quote = refl
same_rule is.single_quote = refl
same_rule is.range_operator = refl
same_rule is.newline = refl
same_rule is.WHITESPACE = refl
same_rule is.line_comment = refl
same_rule is.block_comment = refl
same_rule is.COMMENT = refl
same_rule is.space = refl
same_rule is.grammar_doc = refl
same_rule is.line_doc = refl
same_rule is.inner_doc = refl

pub small_number : (r : Rule) → number_of (name_of r) < 66
small_number is.EOI = omega arith
small_number is.grammar_rules = omega arith
small_number is.grammar_rule = omega arith
small_number is.assignment_operator = omega arith
small_number is.opening_brace = omega arith
small_number is.closing_brace = omega arith
small_number is.opening_paren = omega arith
small_number is.closing_paren = omega arith
small_number is.opening_brack = omega arith
small_number is.closing_brack = omega arith
small_number is.modifier = omega arith
small_number is.silent_modifier = omega arith
small_number is.atomic_modifier = omega arith
small_number is.compound_atomic_modifier = omega arith
small_number is.non_atomic_modifier = omega arith
small_number is.tag_id = omega arith
small_number is.node_tag = omega arith
small_number is.expression = omega arith
small_number is.term = omega arith
small_number is.node = omega arith
small_number is.terminal = omega arith
small_number is.prefix_operator = omega arith
small_number is.infix_operator = omega arith
small_number is.postfix_operator = omega arith
small_number is.positive_predicate_operator = omega arith
small_number is.negative_predicate_operator = omega arith
small_number is.sequence_operator = omega arith
small_number is.choice_operator = omega arith
small_number is.optional_operator = omega arith
small_number is.repeat_operator = omega arith
small_number is.repeat_once_operator = omega arith
small_number is.repeat_exact = omega arith
small_number is.repeat_min = omega arith
small_number is.repeat_max = omega arith
small_number is.repeat_min_max = omega arith
small_number is.number = omega arith
small_number is.integer = omega arith
small_number is.comma = omega arith
small_number is._push = omega arith
small_number is._push_literal = omega arith
small_number is.peek_slice = omega arith
small_number is.identifier = omega arith
small_number is.alpha = omega arith
small_number is.alpha_num = omega arith
small_number is.string = omega arith
small_number is.insensitive_string = omega arith
small_number is.range = omega arith
small_number is.character = omega arith
small_number is.inner_str = omega arith
small_number is.inner_chr = omega arith
small_number is.escape = omega arith
small_number is.code = omega arith
small_number is.unicode = omega arith
small_number is.hex_digit = omega arith
small_number is.quote = omega arith
small_number is.single_quote = omega arith
small_number is.range_operator = omega arith
small_number is.newline = omega arith
small_number is.WHITESPACE = omega arith
small_number is.line_comment = omega arith
small_number is.block_comment = omega arith
small_number is.COMMENT = omega arith
small_number is.space = omega arith
small_number is.grammar_doc = omega arith
small_number is.line_doc = omega arith
small_number is.inner_doc = omega arith

-- so have the trees of a success
abbrev Have : Outcome → Type 0
Have Failure = ⊤
Have (Success t us) = AreNumbered us

joined_have : (us vs : Trees) → AreNumbered us → AreNumbered vs → AreNumbered (joined us vs)
joined_have None' vs x y = y
joined_have (Tree r i j inner others) vs x y = (x.0, x.1, joined_have others vs x.2 y)

of_test : (b : Bool) (t : State) → Have (if b then Success t None' else Failure)
of_test true t = tt
of_test false t = tt

of_text : (alike : ℕ → ℕ → Bool) (t : Text) (s : State) → Have (text_outcome alike t s)
of_text alike t s = of_test (begins alike t s.rest) _

of_one : (set : ℕ → Bool) (s : State) → Have (character_outcome set s)
of_one set s = of_test (starts_in set s.rest) _

of_slice : (i j : Option ℕ) (s : State) → Have (slice_at i j s)
of_slice (Some i) (Some j) s = of_text nat_eq _ s
of_slice (Some i) None s = tt
of_slice None j s = tt

of_stack : (ts : List Text) (o : Outcome) → Have o → Have (with_stack ts o)
of_stack ts Failure h = tt
of_stack ts (Success t us) h = h

of_newline : (s : State) (a b : Bool) → Have (if a then Success (moved 1 s) None' else (if b then Success (moved 2 s) None' else text_outcome nat_eq (13 ∷ []) s))
of_newline s true b = tt
of_newline s false true = tt
of_newline s false false = of_text nat_eq (13 ∷ []) s

end_tree : (i : ℕ) → AreNumbered (Tree (codes "EOI") i i None' None')
end_tree i = (refl, tt, tt)

of_end : (m : Mode) (v : Text) (s : State) → Have (end_outcome m v s)
of_end AtomicMode [] s = tt
of_end NonAtomicMode [] s = end_tree s.position
of_end CompoundAtomicMode [] s = end_tree s.position
of_end Between [] s = end_tree s.position
of_end m (c ∷ v) s = tt

of_drop : (ts : List Text) (s : State) → Have (drop_outcome ts s)
of_drop [] s = tt
of_drop (t ∷ ts) s = tt

along : (o p : Outcome) → Some o ≡ Some p → Have o → Have p
along o p e x = let q : o ≡ p = cc in subst Have q x

of_peek : (ts : List Text) (s : State) (o : Outcome) → peek_outcome ts s ≡ Some o → Have o
of_peek [] s o e = cc
of_peek (t ∷ ts) s o e = along _ o e (of_text nat_eq t s)

of_pop : (ts : List Text) (s : State) (o : Outcome) → pop_outcome ts s ≡ Some o → Have o
of_pop [] s o e = cc
of_pop (t ∷ ts) s o e = along _ o e (of_stack ts _ (of_text nat_eq t s))

of_ahead : (s : State) (o : Outcome) → Have (ahead s o)
of_ahead s Failure = tt
of_ahead s (Success t us) = tt

of_not_ahead : (s : State) (o : Outcome) → Have (not_ahead s o)
of_not_ahead s Failure = tt
of_not_ahead s (Success t us) = tt

of_pushed : (s : State) (o : Outcome) → Have o → Have (pushed s o)
of_pushed s Failure h = tt
of_pushed s (Success t us) h = h

of_token : (b : Bool) (r : Rule) (i j : ℕ) (us : Trees) → AreNumbered us → AreNumbered (if b then Tree (name_of r) i j us None' else us)
of_token true r i j us h = (ap name_of (same_rule r), h, tt)
of_token false r i j us h = h

module _ (classes : Classes) where
  of_builtin : (m : Mode) (b : Builtin) (s : State) (o : Outcome) → builtin_outcome classes m b s ≡ Some o → Have o
  of_builtin m (One set) s o e = along _ o e (of_one set s)
  of_builtin m (Property n) s o e = along _ o e (of_one (classes n) s)
  of_builtin m Newline s o e = along _ o e (of_newline s (begins nat_eq (10 ∷ []) s.rest) (begins nat_eq (13 ∷ 10 ∷ []) s.rest))
  of_builtin m Soi s o e = along _ o e (of_test (s.position == 0) s)
  of_builtin m Eoi s o e = along _ o e (of_end m s.rest s)
  of_builtin m Peek s o e = of_peek s.stack s o e
  of_builtin m Pop s o e = of_pop s.stack s o e
  of_builtin m Drop s o e = along _ o e (of_drop s.stack s)
  of_builtin m PeekAll s o e = along _ o e (of_text nat_eq (concatenated s.stack) s)
  of_builtin m PopAll s o e = along _ o e (of_stack [] _ (of_text nat_eq (concatenated s.stack) s))

  of_named : (m : Mode) (b : Option Builtin) (s : State) (o : Outcome) → named_outcome classes m b s ≡ Some o → Have o
  of_named m None s o e = cc
  of_named m (Some b) s o e = of_builtin m b s o e

  of_other : (m : Mode) (n : Text) (s : State) (o : Outcome) → other_outcome classes m n s ≡ Some o → Have o
  of_other Between n s o e = along Failure o e tt
  of_other NonAtomicMode n s o e = of_named NonAtomicMode (builtin_of n) s o e
  of_other AtomicMode n s o e = of_named AtomicMode (builtin_of n) s o e
  of_other CompoundAtomicMode n s o e = of_named CompoundAtomicMode (builtin_of n) s o e

  of_call_at : (r : Rule) (m : Mode) (s : State) (o : Outcome) → Have o → Have (with_token (rule_at r) m s o)
  of_call_at r m s Failure h = tt
  of_call_at r m s (Success t us) h = of_token (gives_token (type_of_rule r) m) r s.position t.position us h

  of_call : (n : Text) (q : spec.Rule) (m : Mode) (s : State) (o : Outcome) → rule_of meta_grammar n ≡ Some q → Have o → Have (with_token q m s o)
  of_call n q m s o e h =
      let k = known n q e in
      subst (λ q. Have (with_token q m s o)) (sym k.is_at) (of_call_at k.rule m s o h)

  -- what is matched has trees whose rules have numbers
  pub numbered : {k : Task} {s : State} {o : Outcome} → Does meta_grammar classes k s o → Have o
  numbered (str {t = t} {s = s}) = of_text nat_eq t s
  numbered (insens {t = t} {s = s}) = of_text eq_ignore_ascii_case t s
  numbered (range {a = a} {b = b} {s = s}) = of_one (range_set a b) s
  numbered (slice {i = i} {j = j} {s = s}) = of_slice (place (length s.stack) i) (end_place (length s.stack) j) s
  numbered skip = tt
  numbered (call {m = m} {n = n} {s = s} {o = o} {r = r} e d) = of_call n r m s o e (numbered d)
  numbered (other {m = m} {n = n} {s = s} {o = o} e b) = of_other m n s o b
  numbered (pos_pred {s = s} {o = o} d) = of_ahead s o
  numbered (neg_pred {s = s} {o = o} d) = of_not_ahead s o
  numbered (push {s = s} {o = o} d) = of_pushed s o (numbered d)
  numbered push_literal = tt
  numbered (tag d) = numbered d
  numbered (restore d) = numbered d
  numbered (seq {us = us} {vs = vs} {ws = ws} a k b) = joined_have us (joined vs ws) (numbered a) (joined_have vs ws (numbered k) (numbered b))
  numbered (seq_first a) = tt
  numbered (seq_second a k b) = tt
  numbered (left a) = numbered a
  numbered (right a b) = numbered b
  numbered (opt a) = numbered a
  numbered (opt_none a) = tt
  numbered (rep {us = us} {vs = vs} a b) = joined_have us vs (numbered a) (numbered b)
  numbered (rep_none a) = tt
  numbered (turn {us = us} {vs = vs} {ws = ws} k a b) = joined_have us (joined vs ws) (numbered k) (joined_have vs ws (numbered a) (numbered b))
  numbered (turn_none k a) = tt
  numbered (rep_once d) = numbered d
  numbered (rep_exact d) = numbered d
  numbered (rep_min d) = numbered d
  numbered (rep_max d) = numbered d
  numbered (rep_min_max d) = numbered d
  numbered (skips d) = numbered d
  numbered atomic = tt
  numbered compound_atomic = tt
  numbered between = tt
