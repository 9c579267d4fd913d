-- The meta-grammar is well-formed and plain: tests that compute, and what they mean.
use Rattle.std.proofs.Common.{◌≡◌, refl, sym, ◌∙◌, ap, ℕ, ◌<◌, List, [], ◌∷◌, Bool, true, false, not, ◌&&◌, ◌||◌, Option, Some, None, is_some, if◌then◌else◌, bytes_eq, nat_lt, map, codes, arith}
use Rattle.std.proofs.lemmas.Bool.{ltb-true, and_from, or_left, or_right}
use Rattle.std.proofs.lemmas.Slice.Eq.{bytes_eq-Decides}
use Rattle.std.proofs.lemmas.List.Elements.{All-nil, All-cons, All-contains}
use Rattle.std.specs.List.{All, list_all}
use Rattle.base_language.specs.Language.Expression as spec
use Rattle.base_language.specs.Language.Text.{Text}
use Rattle.base_language.specs.Language.Expression.{Expression, Str, Range, Ident, PeekSlice, NegPred, Seq, Choice, Opt, Rep, RepOnce, RepMin, RepMinMax, RuleType, NonAtomic, rule_of, whitespace, comment, Part, whole, of_pos_pred, of_neg_pred, of_seq_left, of_seq_right, of_choice_left, of_choice_right, of_opt, of_rep, of_rep_once, of_rep_exact, of_rep_min, of_rep_max, of_rep_min_max, of_push, of_restore, RepExact, RepMax, or_else, of_tag}
use Rattle.base_language.specs.Language.Builtins.{builtin_of}
use Rattle.base_language.specs.Language.WellFormed.{IsNullable, nullable_str, nullable_insens, nullable_soi, nullable_eoi, nullable_call, nullable_pos_pred, nullable_neg_pred, nullable_opt, nullable_rep, nullable_rep_max, nullable_seq, nullable_left, nullable_right, nullable_rep_once, nullable_push, nullable_exact_zero, nullable_exact, nullable_min_zero, nullable_min, nullable_min_max_zero, nullable_min_max, nullable_skip, nullable_restore, LeftCalls, left_name, left_first, left_second, left_pos_pred, left_neg_pred, left_left, left_right, left_opt, left_rep, left_rep_once, left_rep_exact, left_rep_min, left_rep_max, left_rep_min_max, left_push, left_restore, Leads, at_once, by_way, InRules, InSomeRule, IsSkipped, is_whitespace, is_comment, IsWellFormed, IsPlain, IsPlainName, of_rule, of_builtin, HasReadableCounts, nullable_push_literal, nullable_tag, left_tag}
use Rattle.base_language.specs.Pieces.MetaRules.{name_of, meta_rules}
use Rattle.base_language.specs.declared.grammar.Rule.{Rule}
use Rattle.base_language.specs.declared.grammar.Rule.TheVariants as is
use Rattle.base_language.proofs.Basics.{first_of_both, second_of_both}
use Rattle.front_grammar.specs.Rules.{rank_of}
use Rattle.front_grammar.specs.MetaGrammar.{meta_grammar, rule_at, type_of_rule, body_of}
use Rattle.front_grammar.specs.Rules.{is_defined}
use Rattle.front_grammar.proofs.Lookup.{any_builtin, soi_builtin, eoi_builtin}

pub implied : (a b : Bool) → (not a || b) ≡ true → a ≡ true → b ≡ true
implied true b h k = h
implied false b h k = cc

not-both : (a : Bool) → not a ≡ true → a ≡ true → ⊥
not-both true h k = cc
not-both false h k = cc

abbrev is_among : List Text → Text → Bool
is_among [] n = false
is_among (t ∷ ts) n = bytes_eq t n || is_among ts n

-- names that may succeed without taking anything
abbrev empty_names : List Text
empty_names = codes "SOI" ∷ codes "EOI" ∷ codes "grammar_rules" ∷ codes "inner_str" ∷ codes "inner_doc" ∷ []

-- whether an expression may
abbrev may_be_empty : Expression → Bool
may_be_empty (Str (c ∷ t)) = false
may_be_empty (Range a b) = false
may_be_empty (Ident n) = is_among empty_names n
may_be_empty (Seq a b) = may_be_empty a && may_be_empty b
may_be_empty (Choice a b) = may_be_empty a || may_be_empty b
may_be_empty (RepOnce e) = may_be_empty e
may_be_empty _ = true

-- names that are rules' or plain builtins'
abbrev plain_builtins : List Text
plain_builtins = codes "ANY" ∷ codes "SOI" ∷ codes "EOI" ∷ []

abbrev is_known : Text → Bool
is_known n = is_some (rule_of meta_grammar n) || is_among plain_builtins n

-- no repetition may go on without taking anything, counts are readable, names are known, and there is no slice
abbrev is_sound : Expression → Bool
is_sound (Str t) = true
is_sound (Range a b) = true
is_sound (Ident n) = is_known n
is_sound (NegPred e) = is_sound e
is_sound (Seq a b) = is_sound a && is_sound b
is_sound (Choice a b) = is_sound a && is_sound b
is_sound (Opt e) = is_sound e
is_sound (Rep e) = not (may_be_empty e) && is_sound e
is_sound (RepOnce e) = not (may_be_empty e) && is_sound e
is_sound (RepMinMax e i j) = nat_lt 0 j && is_sound e
is_sound _ = false

-- the rank of a name, 0 for a builtin's
abbrev rank_among : List Rule → Text → ℕ
rank_among [] n = 0
rank_among (r ∷ rs) n = if bytes_eq (name_of r) n then rank_of r else rank_among rs n

abbrev rank : Text → ℕ
rank n = rank_among meta_rules n

-- whether the left calls of an expression have ranks below a bound
abbrev calls_below : ℕ → Expression → Bool
calls_below b (Str t) = true
calls_below b (Range x y) = true
calls_below b (Ident n) = nat_lt (rank n) b
calls_below b (NegPred e) = calls_below b e
calls_below b (Seq x y) = calls_below b x && (not (may_be_empty x) || calls_below b y)
calls_below b (Choice x y) = calls_below b x && calls_below b y
calls_below b (Opt e) = calls_below b e
calls_below b (Rep e) = calls_below b e
calls_below b (RepOnce e) = calls_below b e
calls_below b (RepMinMax e i j) = calls_below b e
calls_below b _ = false

abbrev is_non_atomic : RuleType → Bool
is_non_atomic NonAtomic = true
is_non_atomic _ = false

-- the tests of a rule
abbrev is_fine : Rule → Bool
is_fine r = is_sound (body_of r) && (calls_below (rank (name_of r)) (body_of r) && ((not (may_be_empty (body_of r)) || is_among empty_names (name_of r)) && not (is_non_atomic (type_of_rule r))))

all_fine : (r : Rule) → is_defined r ≡ true → is_fine r ≡ true
unfolding meta_grammar
all_fine is.EOI h = cc
all_fine is.grammar_rules h = refl
all_fine is.grammar_rule h = refl
all_fine is.assignment_operator h = refl
all_fine is.opening_brace h = refl
all_fine is.closing_brace h = refl
all_fine is.opening_paren h = refl
all_fine is.closing_paren h = refl
all_fine is.opening_brack h = refl
all_fine is.closing_brack h = refl
all_fine is.modifier h = refl
all_fine is.silent_modifier h = refl
all_fine is.atomic_modifier h = refl
all_fine is.compound_atomic_modifier h = refl
all_fine is.non_atomic_modifier h = refl
all_fine is.tag_id h = refl
all_fine is.node_tag h = refl
all_fine is.expression h = refl
all_fine is.term h = refl
all_fine is.node h = refl
all_fine is.terminal h = refl
all_fine is.prefix_operator h = refl
all_fine is.infix_operator h = refl
all_fine is.postfix_operator h = refl
all_fine is.positive_predicate_operator h = refl
all_fine is.negative_predicate_operator h = refl
all_fine is.sequence_operator h = refl
all_fine is.choice_operator h = refl
all_fine is.optional_operator h = refl
all_fine is.repeat_operator h = refl
all_fine is.repeat_once_operator h = refl
all_fine is.repeat_exact h = refl
all_fine is.repeat_min h = refl
all_fine is.repeat_max h = refl
all_fine is.repeat_min_max h = refl
all_fine is.number h = refl
all_fine is.integer h = refl
all_fine is.comma h = refl
all_fine is._push h = refl
all_fine is._push_literal h = refl
all_fine is.peek_slice h = refl
all_fine is.identifier h = refl
all_fine is.alpha h = refl
all_fine is.alpha_num h = refl
all_fine is.string h = refl
all_fine is.insensitive_string h = refl
all_fine is.range h = refl
all_fine is.character h = refl
all_fine is.inner_str h = refl
all_fine is.inner_chr h = refl
all_fine is.escape h = refl
all_fine is.code h = refl
all_fine is.unicode h = refl
all_fine is.hex_digit h = refl
all_fine is.quote h = refl
all_fine is.single_quote h = refl
all_fine is.range_operator h = refl
all_fine is.newline h = refl
all_fine is.WHITESPACE h = refl
all_fine is.line_comment h = refl
all_fine is.block_comment h = refl
all_fine is.COMMENT h = refl
all_fine is.space h = refl
all_fine is.grammar_doc h = refl
all_fine is.line_doc h = refl
all_fine is.inner_doc h = refl

-- the rule of a name
pub record Known (n : Text) (q : spec.Rule) : Type 0 where
  pub rule : Rule
  pub defined : is_defined rule ≡ true
  pub is_at : q ≡ rule_at rule
  pub named : name_of rule ≡ n

known_among : (rs : List Rule) (n : Text) (q : spec.Rule) → list_all is_defined rs ≡ true → rule_of (map rule_at rs) n ≡ Some q → Known n q
known_among [] n q d h = cc
known_among (r ∷ rs) n q d h = go (rule_of (map rule_at rs) n) refl h (known_among rs n q (second_of_both _ _ d))
  where
    here : (b : Bool) → bytes_eq (name_of r) n ≡ b → (if b then Some (rule_at r) else None) ≡ Some q → Known n q
    here true e i = record { rule = r; defined = first_of_both _ _ d; is_at = cc; named = (bytes_eq-Decides (name_of r) n).0 e }
    here false e i = cc

    go : (o : Option spec.Rule) → rule_of (map rule_at rs) n ≡ o → or_else o (if bytes_eq (name_of r) n then Some (rule_at r) else None) ≡ Some q → (rule_of (map rule_at rs) n ≡ Some q → Known n q) → Known n q
    go (Some p) e i k = k (e ∙ i)
    go None e i k = here (bytes_eq (name_of r) n) refl i

all_defined : list_all is_defined meta_rules ≡ true
all_defined = refl

pub known : (n : Text) (q : spec.Rule) → rule_of meta_grammar n ≡ Some q → Known n q
unfolding meta_grammar
known n q h = known_among meta_rules n q all_defined h

-- what is known of the rule of a name
record Fine (n : Text) (q : spec.Rule) : Type 0 where
  sound : is_sound q.body ≡ true
  goes_down : calls_below (rank n) q.body ≡ true
  empty_named : (not (may_be_empty q.body) || is_among empty_names n) ≡ true
  atomic : not (is_non_atomic q.type_of) ≡ true

fine_at : (r : Rule) → is_fine r ≡ true → Fine (name_of r) (rule_at r)
fine_at r f =
    let g = second_of_both _ _ f in
    let i = second_of_both _ _ g in
    record { sound = first_of_both _ _ f; goes_down = first_of_both _ _ g; empty_named = first_of_both _ _ i; atomic = second_of_both _ _ i }

fine_along : (n m : Text) (q r : spec.Rule) → q ≡ r → m ≡ n → Fine m r → Fine n q
fine_along n m q r e f x = rw (e, ← f) x

fine : (n : Text) (q : spec.Rule) → rule_of meta_grammar n ≡ Some q → Fine n q
fine n q h = let k = known n q h in fine_along n _ q _ k.is_at k.named (fine_at k.rule (all_fine k.rule k.defined))

empty : {e : Expression} → IsNullable meta_grammar e → may_be_empty e ≡ true
empty nullable_str = refl
empty nullable_insens = refl
empty nullable_soi = refl
empty nullable_eoi = refl
empty (nullable_call {n = n} {r = r} h d) = implied _ _ (fine n r h).empty_named (empty d)
empty nullable_pos_pred = refl
empty nullable_neg_pred = refl
empty nullable_opt = refl
empty nullable_rep = refl
empty nullable_rep_max = refl
empty (nullable_seq a b) = and_from _ _ (empty a) (empty b)
empty (nullable_left a) = or_left _ _ (empty a)
empty (nullable_right b) = or_right _ _ (empty b)
empty (nullable_rep_once d) = empty d
empty (nullable_push d) = refl
empty nullable_push_literal = refl
empty (nullable_tag d) = refl
empty nullable_exact_zero = refl
empty (nullable_exact d) = refl
empty nullable_min_zero = refl
empty (nullable_min d) = refl
empty nullable_min_max_zero = refl
empty (nullable_min_max d) = refl
empty nullable_skip = refl
empty (nullable_restore d) = refl

sound_part : {e p : Expression} → Part e p → is_sound e ≡ true → is_sound p ≡ true
sound_part whole h = h
sound_part (of_pos_pred d) h = cc
sound_part (of_neg_pred d) h = sound_part d h
sound_part (of_seq_left d) h = sound_part d (first_of_both _ _ h)
sound_part (of_seq_right d) h = sound_part d (second_of_both _ _ h)
sound_part (of_choice_left d) h = sound_part d (first_of_both _ _ h)
sound_part (of_choice_right d) h = sound_part d (second_of_both _ _ h)
sound_part (of_opt d) h = sound_part d h
sound_part (of_rep d) h = sound_part d (second_of_both _ _ h)
sound_part (of_rep_once d) h = sound_part d (second_of_both _ _ h)
sound_part (of_rep_exact d) h = cc
sound_part (of_rep_min d) h = cc
sound_part (of_rep_max d) h = cc
sound_part (of_rep_min_max d) h = sound_part d (second_of_both _ _ h)
sound_part (of_push d) h = cc
sound_part (of_tag d) h = cc
sound_part (of_restore d) h = cc

sound_in : (p : Expression) → InRules meta_grammar p → is_sound p ≡ true
sound_in p i = sound_part i.3 (fine i.0 i.1 i.2).sound

below : {e : Expression} {k : Text} (b : ℕ) → LeftCalls meta_grammar e k → calls_below b e ≡ true → rank k < b
below b (left_name {n = n}) h = ltb-true (rank n) b h
below b (left_first d) h = below b d (first_of_both _ _ h)
below b (left_second e d) h = below b d (implied _ _ (second_of_both _ _ h) (empty e))
below b (left_pos_pred d) h = cc
below b (left_neg_pred d) h = below b d h
below b (left_left d) h = below b d (first_of_both _ _ h)
below b (left_right d) h = below b d (second_of_both _ _ h)
below b (left_opt d) h = below b d h
below b (left_rep d) h = below b d h
below b (left_rep_once d) h = below b d h
below b (left_rep_exact d) h = cc
below b (left_rep_min d) h = cc
below b (left_rep_max d) h = cc
below b (left_rep_min_max d) h = below b d h
below b (left_push d) h = cc
below b (left_tag d) h = cc
below b (left_restore d) h = cc

leads_below : {n k : Text} → Leads meta_grammar n k → rank k < rank n
leads_below (at_once {n = n} {r = r} h d) = below (rank n) d (fine n r h).goes_down
leads_below (by_way a b) = let x = leads_below a in let y = leads_below b in omega arith

skipped_takes : (n : Text) → IsSkipped n → is_among empty_names n ≡ false
unfolding whitespace comment
skipped_takes n is_whitespace = refl
skipped_takes n is_comment = refl

pub well_formed : IsWellFormed meta_grammar
well_formed = record {
  rep = λ e i d. not-both _ (first_of_both _ _ (sound_in (Rep e) i)) (empty d);
  rep_once = λ e i d. not-both _ (first_of_both _ _ (sound_in (RepOnce e) i)) (empty d);
  rep_min = λ e j i d. let h = sound_in (RepMin e j) i in cc;
  skipping = λ n s d. let h = empty d in let k = skipped_takes n s in cc;
  no_cycle = λ n l. let h = leads_below l in omega arith;
}

named : (n : Text) (o : Option spec.Rule) → rule_of meta_grammar n ≡ o → (a b c : Bool) → bytes_eq (codes "ANY") n ≡ a → bytes_eq (codes "SOI") n ≡ b → bytes_eq (codes "EOI") n ≡ c → (is_some o || (a || (b || (c || false)))) ≡ true → IsPlainName meta_grammar n
named n (Some r) e a b c i j k h = of_rule e
named n None e true b c i j k h = of_builtin (ap builtin_of (sym ((bytes_eq-Decides _ n).0 i)) ∙ any_builtin) tt
named n None e false true c i j k h = of_builtin (ap builtin_of (sym ((bytes_eq-Decides _ n).0 j)) ∙ soi_builtin) tt
named n None e false false true i j k h = of_builtin (ap builtin_of (sym ((bytes_eq-Decides _ n).0 k)) ∙ eoi_builtin) tt
named n None e false false false i j k h = cc

pub plain : IsPlain meta_grammar
plain = record {
  names = λ n i. named n (rule_of meta_grammar n) refl _ _ _ refl refl refl (sound_in (Ident n) i);
  slices = λ i j p. let h = sound_in (PeekSlice i j) p in cc;
  skipping = λ n k r s d h e. let f = (fine k r h).atomic in cc;
}

-- also in a rule that a later one would hide
abbrev IsSoundRule : spec.Rule → Type 0
IsSoundRule q = is_sound q.body ≡ true

all_sound : (rs : List Rule) → list_all is_defined rs ≡ true → All IsSoundRule (map rule_at rs)
all_sound [] d = All-nil IsSoundRule
all_sound (r ∷ rs) d = All-cons IsSoundRule (rule_at r) (map rule_at rs) (fine_at r (all_fine r (first_of_both _ _ d))).sound (all_sound rs (second_of_both _ _ d))

sound_in_some : (p : Expression) → InSomeRule meta_grammar p → is_sound p ≡ true
unfolding meta_grammar
sound_in_some p i = sound_part i.2 (All-contains IsSoundRule meta_grammar i.0 (all_sound meta_rules all_defined) i.1)

pub counted : HasReadableCounts meta_grammar
counted (RepExact e i) p = let h = sound_in_some (RepExact e i) p in cc
counted (RepMax e i) p = let h = sound_in_some (RepMax e i) p in cc
counted (RepMinMax e i j) p = ltb-true 0 j (first_of_both _ _ (sound_in_some (RepMinMax e i j) p))
counted _ p = tt
