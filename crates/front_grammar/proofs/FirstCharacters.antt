-- What fails where the next character cannot begin it, and what is noted then.
use Rattle.std.proofs.Common.{◌≡◌, refl, subst, ℕ, zero, suc, max, List, [], ◌∷◌, Bool, true, false, not, ◌&&◌, ◌||◌, Option, Some, None, arith, if◌then◌else◌, nat_eq, eqb-true, codes, ◌⊎◌, inl, inr}
use Rattle.base_language.specs.Language.Text.{Text}
use Rattle.base_language.specs.Language.Expression.{Expression, Str, Ident, NegPred, Seq, Choice, rule_of, whitespace, comment}
use Rattle.base_language.specs.Language.State.{Classes, State, Mode, NonAtomicMode, AtomicMode, Failure}
use Rattle.base_language.specs.Language.Matching.{text_outcome}
use Rattle.base_language.specs.Language.Meaning.{Run, body_mode, gives_token, seen_from}
use Rattle.base_language.specs.Language.Ran.{Ran}
use Rattle.base_language.specs.Pieces.MetaRules.{name_of}
use Rattle.base_language.specs.declared.grammar.Rule.{Rule}
use Rattle.base_language.specs.declared.grammar.Rule.TheVariants as is
use Rattle.base_language.proofs.Steps.{ran_atomic, ran_not_ahead, ran_str, ran_seq_fails, ran_right, ran_call, ran_seq}
use Rattle.base_language.specs.Language.Builtins.{is_lower, is_upper}
use Rattle.base_language.proofs.Basics.{first_of_both, second_of_both}
use Rattle.front_grammar.specs.MetaGrammar.{meta_grammar, rule_at, type_of_rule, body_of}
use Rattle.front_grammar.specs.Rules.{is_defined}
use Rattle.front_grammar.proofs.Lookup.{defined_rule}
use Rattle.front_grammar.proofs.Naming.{rule_named, name_of_named}
use Rattle.front_grammar.specs.MetaGrammar.{double_quote, backslash}
use Rattle.front_grammar.proofs.SingleCharacters as single
use Rattle.front_grammar.proofs.SingleCharacters.{fails_within}

-- the first set of a rule, for the rules that fail most often
abbrev pub firsts : Rule → Option (List ℕ)
firsts is.WHITESPACE = Some (32 ∷ 9 ∷ 10 ∷ 13 ∷ [])
firsts is.newline = Some (10 ∷ 13 ∷ [])
firsts is.COMMENT = Some (codes "/")
firsts is.line_comment = Some (codes "/")
firsts is.block_comment = Some (codes "/")
firsts is.grammar_doc = Some (codes "/")
firsts is.line_doc = Some (codes "/")
firsts is.prefix_operator = Some (codes "&!")
firsts is.infix_operator = Some (codes "~|")
firsts is.postfix_operator = Some (codes "?*+{")
firsts is.modifier = Some (codes "_@$!")
firsts is.tag_id = Some (codes "#")
firsts is.node_tag = Some (codes "#")
firsts is._push = Some (codes "P")
firsts is._push_literal = Some (codes "P")
firsts is.peek_slice = Some (codes "P")
firsts is.string = Some double_quote
firsts is.quote = Some double_quote
firsts is.insensitive_string = Some (codes "^")
firsts is.range = Some (codes "'")
firsts is.character = Some (codes "'")
firsts is.single_quote = Some (codes "'")
firsts is.escape = Some backslash
firsts is.opening_paren = Some (codes "(")
firsts is.closing_paren = Some (codes ")")
firsts is.sequence_operator = Some (codes "~")
firsts is.choice_operator = Some (codes "|")
firsts is.optional_operator = Some (codes "?")
firsts is.repeat_operator = Some (codes "*")
firsts is.repeat_once_operator = Some (codes "+")
firsts _ = None

-- whether a character is one of these
abbrev pub is_among : List ℕ → ℕ → Bool
is_among [] c = false
is_among (x ∷ xs) c = nat_eq c x || is_among xs c

abbrev pub is_among_any : Option (List ℕ) → ℕ → Bool
is_among_any None c = true
is_among_any (Some xs) c = is_among xs c

-- whether a name begins with a character
abbrev pub begins_name : ℕ → Bool
begins_name c = nat_eq 95 c || (is_lower c || is_upper c)

-- whether a match of a rule may begin with a character, as far as first sets are listed
abbrev pub may_begin : Rule → ℕ → Bool
may_begin is.identifier c = begins_name c
may_begin r c = is_among_any (firsts r) c

-- whether a call in NonAtomic that the first set refuses is recorded as a failure: not blanks and comments, which
-- are silent
abbrev pub is_recorded_at_once : Rule → Bool
is_recorded_at_once is.WHITESPACE = false
is_recorded_at_once is.newline = false
is_recorded_at_once is.COMMENT = false
is_recorded_at_once is.line_comment = false
is_recorded_at_once is.block_comment = false
is_recorded_at_once _ = true

-- whether all that an expression matches begins with one of these characters, if that is so of what it calls
abbrev begins_by : (Text → Bool) → List ℕ → Expression → Bool
begins_by called xs (Str []) = false
begins_by called xs (Str (x ∷ t)) = is_among xs x
begins_by called xs (Ident n) = called n
begins_by called xs (Seq a b) = begins_by called xs a
begins_by called xs (Choice a b) = begins_by called xs a && begins_by called xs b
begins_by called xs _ = false

abbrev rule_begins : (Expression → Bool) → Option Rule → Bool
rule_begins f None = false
rule_begins f (Some r) = is_defined r && f (body_of r)

-- the same of a name, with so many calls followed
abbrev begins_within : ℕ → List ℕ → Text → Bool
begins_within zero xs n = false
begins_within (suc k) xs n = rule_begins (begins_by (begins_within k xs) xs) (rule_named n)

-- whether such a failure of an expression is noted, by whether it is of what it calls
abbrev notes_by : (Mode → Text → Bool) → Mode → Expression → Bool
notes_by called m (Ident n) = called m n
notes_by called m (Seq a b) = notes_by called m a
notes_by called m (Choice a b) = notes_by called m a || notes_by called m b
notes_by called m _ = false

abbrev rule_notes : (Mode → Expression → Bool) → Mode → Option Rule → Bool
rule_notes f m None = false
rule_notes f m (Some r) = f (body_mode (rule_at r) m) (body_of r) || (seen_from m && gives_token (type_of_rule r) m)

abbrev notes_within : ℕ → Mode → Text → Bool
notes_within zero m n = false
notes_within (suc k) m n = rule_notes (notes_by (notes_within k)) m (rule_named n)

apart : (xs : List ℕ) (x c : ℕ) (b : Bool) → nat_eq x c ≡ b → is_among xs x ≡ true → is_among xs c ≡ false → b ≡ false
apart xs x c true e h k = let i = eqb-true x c e in let j = rw i at h in cc
apart xs x c false e h k = refl

abbrev same_bool : Bool → Bool → Bool
same_bool true b = b
same_bool false b = not b

same_true : (a b : Bool) → same_bool a b ≡ true → a ≡ b
same_true true true h = refl
same_true true false h = cc
same_true false true h = cc
same_true false false h = refl

noted_twice : (a b : Bool) (p q k : ℕ) → q ≡ max p (if (a || b) then k else 0) → q ≡ max (max p (if a then k else 0)) (if b then k else 0)
noted_twice true true p q k h = omega arith
noted_twice true false p q k h = omega arith
noted_twice false true p q k h = omega arith
noted_twice false false p q k h = omega arith

module _ (classes : Classes) (xs : List ℕ) (c : ℕ) (elsewhere : is_among xs c ≡ false) where
  -- it fails from each place before that character, and that is noted or not
  abbrev FailsBefore : (Mode → Bool) → Expression → Type 0
  FailsBefore noted e = (m : Mode) (s : State) (u : Text) (p q : ℕ) → s.rest ≡ c ∷ u → q ≡ max p (if noted m then s.position else 0) → Ran meta_grammar classes (Run m e) s Failure p q

  no_text : (x : ℕ) (t : Text) (s : State) (u : Text) → is_among xs x ≡ true → s.rest ≡ c ∷ u → Failure ≡ text_outcome nat_eq (x ∷ t) s
  no_text x t s u h e = rw (e, apart xs x c (nat_eq x c) refl h elsewhere) refl

  str_fails : (t : Text) → begins_by (λ n. false) xs (Str t) ≡ true → FailsBefore (λ m. false) (Str t)
  str_fails [] h = cc
  str_fails (x ∷ t) h = λ m s u p q e k. let i : q ≡ p = omega arith in rw i (ran_str (no_text x t s u h e))

  module _ (called : Text → Bool) (noted : Mode → Text → Bool) (calls_fail : (n : Text) → called n ≡ true → FailsBefore (λ m. noted m n) (Ident n)) where
    all_fail : (e : Expression) → begins_by called xs e ≡ true → FailsBefore (λ m. notes_by noted m e) e
    all_fail (Str t) h = str_fails t h
    all_fail (Ident n) h = calls_fail n h
    all_fail (Seq a b) h = λ m s u p q e k. ran_seq_fails (all_fail a h m s u p q e k)
    all_fail (Choice a b) h = λ m s u p q e k.
        ran_right (all_fail a (first_of_both _ _ h) m s u p _ e refl)
        (all_fail b (second_of_both _ _ h) m s u _ q e (noted_twice (notes_by noted m a) (notes_by noted m b) p q s.position k))
    all_fail _ h = cc

  call_fails : (k : ℕ) (n : Text) → begins_within k xs n ≡ true → FailsBefore (λ m. notes_within k m n) (Ident n)
  call_fails zero n h = cc
  call_fails (suc k) n h = go (call_fails k) (rule_named n) refl h
    where
      go : ((j : Text) → begins_within k xs j ≡ true → FailsBefore (λ m. notes_within k m j) (Ident j)) → (o : Option Rule) → rule_named n ≡ o → rule_begins (begins_by (begins_within k xs) xs) o ≡ true → FailsBefore (λ m. rule_notes (notes_by (notes_within k)) m o) (Ident n)
      go before None e i = cc
      go before (Some r) e i = λ m s u p q j l.
          let P : Text → Type 0 = λ t. rule_of meta_grammar t ≡ Some (rule_at r) in
          let found : rule_of meta_grammar n ≡ Some (rule_at r) = subst P (name_of_named n r e) (defined_rule r (first_of_both _ _ i)) in
          ran_call found
          (all_fail (begins_within k xs) (notes_within k) before (body_of r) (second_of_both _ _ i) (body_mode (rule_at r) m) s u p _ j refl)
          (noted_twice (notes_by (notes_within k) (body_mode (rule_at r) m) (body_of r)) (seen_from m && gives_token (type_of_rule r) m) p q s.position l)

-- each list of first characters is right, and so is what is noted
abbrev is_right : Option (List ℕ) → Rule → Bool
is_right None r = true
is_right (Some xs) r = begins_within 3 xs (name_of r) && same_bool (notes_within 3 NonAtomicMode (name_of r)) (is_recorded_at_once r)

right_in_non_atomic : (r : Rule) → is_right (firsts r) r ≡ true
unfolding rule_named whitespace comment
right_in_non_atomic is.EOI = refl
right_in_non_atomic _ = refl

-- a name fails before a character that begins none
no_push : (c : ℕ) (b : Bool) → nat_eq 80 c ≡ b → (is_lower c || is_upper c) ≡ false → not b ≡ true
no_push c true e h = let i = eqb-true 80 c e in let j = rw (← i) at h in cc
no_push c false e h = refl

no_start : (n l u : Bool) → (n || (l || u)) ≡ false → ((not n && (not l && not u)) ≡ true) × ((l || u) ≡ false)
no_start true l u h = cc
no_start false true u h = cc
no_start false false true h = cc
no_start false false false h = (refl, refl)

name_body_fails : (c : ℕ) (classes : Classes) (s : State) (u : Text) (p : ℕ) → begins_name c ≡ false → s.rest ≡ c ∷ u → Ran meta_grammar classes (Run AtomicMode (body_of is.identifier)) s Failure p p
unfolding rule_named
name_body_fails c classes s u p h e =
    let k = no_start (nat_eq 95 c) (is_lower c) (is_upper c) h in
    let push : Ran meta_grammar classes (Run AtomicMode (Str (codes "PUSH"))) s Failure p p = single.all_fail classes c (λ n. false) (λ n. λ i. cc) (Str (codes "PUSH")) (no_push c (nat_eq 80 c) refl k.1) AtomicMode s u p e in
    let first : Ran meta_grammar classes (Run AtomicMode (Choice (Str (codes "_")) (Ident (name_of is.alpha)))) s Failure p p = single.all_fail classes c (fails_within 2 c) (single.call_fails classes c 2) (Choice (Str (codes "_")) (Ident (name_of is.alpha))) k.0 AtomicMode s u p e in
    let both : Ran meta_grammar classes (Run AtomicMode (Seq (NegPred (Str (codes "PUSH"))) (Choice (Str (codes "_")) (Ident (name_of is.alpha))))) s Failure p p = ran_seq (ran_not_ahead push) ran_atomic first in
    ran_seq_fails both

name_fails : (c : ℕ) (classes : Classes) (s : State) (u : Text) (p q : ℕ) → begins_name c ≡ false → s.rest ≡ c ∷ u → q ≡ max p (if seen_from NonAtomicMode then s.position else 0) → Ran meta_grammar classes (Run NonAtomicMode (Ident (name_of is.identifier))) s Failure p q
name_fails c classes s u p q h e k = ran_call (defined_rule is.identifier refl) (name_body_fails c classes s u p h e) k

name_or_listed : (r : Rule) (c : ℕ) → may_begin r c ≡ false → ((r ≡ is.identifier) × (begins_name c ≡ false)) ⊎ (is_among_any (firsts r) c ≡ false)
name_or_listed is.identifier c h = inl (refl, h)
name_or_listed is.EOI c h = inr h
name_or_listed _ c h = inr h

-- a call fails where the next character cannot begin what its rule matches
pub fails_at_once : (r : Rule) (c : ℕ) (classes : Classes) (s : State) (u : Text) (p q : ℕ) → may_begin r c ≡ false → s.rest ≡ c ∷ u → q ≡ max p (if is_recorded_at_once r then s.position else 0) → Ran meta_grammar classes (Run NonAtomicMode (Ident (name_of r))) s Failure p q
fails_at_once r c classes s u p q h e k = either (name_or_listed r c h)
  where
    go : (o : Option (List ℕ)) → is_among_any o c ≡ false → is_right o r ≡ true → Ran meta_grammar classes (Run NonAtomicMode (Ident (name_of r))) s Failure p q
    go None a b = cc
    go (Some xs) a b =
        let same = same_true (notes_within 3 NonAtomicMode (name_of r)) (is_recorded_at_once r) (second_of_both _ _ b) in
        call_fails classes xs c a 3 (name_of r) (first_of_both _ _ b) NonAtomicMode s u p q e (rw same k)

    either : ((r ≡ is.identifier) × (begins_name c ≡ false)) ⊎ (is_among_any (firsts r) c ≡ false) → Ran meta_grammar classes (Run NonAtomicMode (Ident (name_of r))) s Failure p q
    either (inl (i, b)) = rw i (name_fails c classes s u p q b e (rw i at k))
    either (inr b) = go (firsts r) b (right_in_non_atomic r)
