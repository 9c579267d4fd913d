-- How the code of a task is made of that of its parts.
use Rattle.std.proofs.Common.{◌≡◌, refl, sym, ◌∙◌, ap, subst, ℕ, zero, suc, ◌<◌, inl, inr, List, [], ◌∷◌, Bool, true, false, ◌&&◌, chars, codes, get_or, length, nat_eq, nat_lt, arith}
use Rattle.std.proofs.Math.Bool.{and-false}
use Rattle.std.specs.Prelude.{IsAscii}
use Rattle.std.specs.List.{list_all}
use Rattle.std.proofs.lemmas.Bool.{and_parts, ltb-true}
use Rattle.std.proofs.lemmas.Str.{IsUtf8-from_ascii, chars-IsAscii}
use Rattle.base_language.specs.Language.Text.{Text}
use Rattle.base_language.specs.Language.Expression.{Choice, Expression, Ident, NegPred, Opt, Rep, Seq, Str, comment, whitespace}
use Rattle.base_language.specs.Language.State.{AtomicMode, Between, Classes, CompoundAtomicMode, IsRuleMode, Mode, NonAtomicMode}
use Rattle.base_language.specs.Language.Matching.{character_outcome, end_outcome, text_outcome}
use Rattle.base_language.specs.Language.Meaning as by
use Rattle.base_language.specs.Language.Meaning.{Run, Skipping, Task, body_mode, gives_token, seen_from, skipped}
use Rattle.base_language.specs.Pieces.MetaRules.{name_of}
use Rattle.base_language.specs.declared.grammar.Rule.{Rule}
use Rattle.base_language.specs.declared.grammar.Rule.TheVariants as rule
use Rattle.front_grammar.specs.MetaGrammar.{any, body_of, meta_grammar, rule_at, type_of_rule}
use Rattle.front_grammar.specs.Rules.{is_defined}
use Rattle.front_grammar.proofs.Lookup.{defined_rule, no_any, no_eoi, no_soi}
use Rattle.matcher_code.specs.Lists.{CodeLists}
use Rattle.matcher_code.specs.declared.code.Op.{Op}
use Rattle.matcher_code.specs.declared.code.Op.TheVariants as op
use Rattle.matcher_code.specs.CommentRules.{comment_outcome}
use Rattle.matcher_code.specs.Failures.{end_failures, in_silence}
use Rattle.matcher_code.specs.Laid.{Enters, EntersTurn, FailsOutside, IsPoint, IsTight, Performs, Point, TakesOne, at_label, no_point, skip_set}
use Rattle.matcher_code.specs.Sets.{IsSetOf}
use Rattle.matcher_code.specs.Steps.{Config, StopsAt}
use Rattle.matcher_code.proofs.Characters.{span_of_set}
use Rattle.matcher_code.proofs.CommentBytes.{nested_performs}
use Rattle.matcher_code.proofs.CommentRule.{comments_matched}
use Rattle.matcher_code.proofs.Ends.{end_performs, start_performs}
use Rattle.matcher_code.proofs.Leaves.{text_performs}
use Rattle.front_code.specs.Codes.{HasParts}
use Rattle.front_code.specs.Layouts.{LaysAll, call, choice, in_place, leaf, neg_pred, nothing, opt, rep, routine, skips, sub, tight_rep, tried_seq}
use Rattle.front_code.specs.Numbers.{number_of}
use Rattle.front_code.proofs.Characters.{TakesCharacter}
use Rattle.front_code.proofs.Leaves.{all_as, any_outcome, end_outcome_of, one_as, start_outcome}

-- bytes of ASCII
ascii : (t : List ℕ) → list_all (λ c. nat_lt c 128) t ≡ true → IsAscii t
ascii [] h = λ i. omega arith
ascii (c ∷ t) h =
    let k = and_parts (nat_lt c 128) (list_all (λ c. nat_lt c 128) t) h in
    λ i. go i (ltb-true c 128 k.0) (ascii t k.1)
  where
    go : (i : ℕ) → c < 128 → IsAscii t → get_or (c ∷ t) i 0 < 128
    go zero a b = a
    go (suc i) a b = b i

-- a point of a list by its place
pub at_point : (called : List Point) {k : Task} {l n w : ℕ} (i : ℕ) → nat_lt i (length called) ≡ true
    → get_or called i no_point ≡ record { task = k; label = l; next = n; on_fail = w; rank = 0 } → IsPoint called k l n w
at_point called i h e = record { place = i; rank = 0; within = ltb-true i (length called) h; is = e }

-- a program and its parts, exact or not, and the points that are called; classes, of which none is asked
pub record Setting : Type 0 where
  pub exact : Bool
  pub ops : List Op
  pub texts : List (List ℕ)
  pub sets : List (List (ℕ × ℕ))
  pub called : List Point
  pub classes : Classes
  pub code : CodeLists
  pub has : HasParts ops texts sets code
  pub fail : get_or ops 0 op.Lose ≡ op.Fail

module _ (s : Setting) where
  -- the operation of a label
  abbrev pub op_of : ℕ → Op
  op_of l = get_or s.ops l op.Lose

  abbrev pub Laid : Task → ℕ → ℕ → ℕ → Type 0
  Laid k l n w = LaysAll s.exact meta_grammar s.classes s.code number_of s.called k l n w

  pub has_op : (l : ℕ) {o : Op} → op_of l ≡ o → at_label s.code l ≡ o
  has_op l h = ap (λ os. get_or os l op.Lose) s.has.ops ∙ h

  fails : at_label s.code 0 ≡ op.Fail
  fails = has_op 0 s.fail

  has_set : (i : ℕ) {ranges : List (ℕ × ℕ)} → nat_lt i (length s.sets) ≡ true → get_or s.sets i [] ≡ ranges → IsSetOf s.code i ranges
  has_set i h e = subst (λ r. IsSetOf s.code i r) e (s.has.sets i (ltb-true i (length s.sets) h))

  -- a text
  pub word : {m : Mode} {l n w : ℕ} {t : Text} (i : ℕ) → op_of l ≡ op.Text i n w → get_or s.texts i [] ≡ t
      → list_all (λ c. nat_lt c 128) t ≡ true → Laid (Run m (Str t)) l n w
  word {m} {l} {n} {w} {t} i o e a =
      let b : IsAscii t = ascii t a in
      leaf (text_outcome nat_eq t) in_silence (λ t. (by.str, λ place. refl))
      (subst (λ u. Performs s.code number_of l n w (text_outcome nat_eq u) in_silence) (chars-IsAscii t b)
      (text_performs s.code number_of fails l n w i t (IsUtf8-from_ascii t b) (ap (λ ts. get_or ts i []) s.has.texts ∙ e) (has_op l o)))

  -- the start of the text, and its end
  pub start : {m : Mode} {l n w : ℕ} → IsRuleMode m → op_of l ≡ op.Start n w → Laid (Run m (Ident (codes "SOI"))) l n w
  start {m} {l} {n} {w} r o = leaf _ in_silence (start_outcome meta_grammar s.classes m r no_soi) (start_performs s.code number_of fails l n w (has_op l o))

  pub end : {m : Mode} {l n w : ℕ} (found note : ℕ) → IsRuleMode m → seen_from m ≡ true → op_of l ≡ op.End found note
      → op_of found ≡ op.Leaf (number_of (codes "EOI")) n → op_of note ≡ op.Miss (number_of (codes "EOI")) w
      → Laid (Run m (Ident (codes "EOI"))) l n w
  end {m} {l} {n} {w} found note r h a b d =
      leaf (λ x. end_outcome m x.rest x) (λ place x. end_failures place x (end_outcome m x.rest x)) (end_outcome_of meta_grammar s.classes m r no_eoi h)
      (end_performs s.code number_of fails m l n w found note h (has_op l a) (has_op found b) (has_op note d))

  -- the mode of a rule's body
  in_mode : (m b : Mode) {first last : ℕ} (r : Rule) → body_mode (rule_at r) m ≡ b → IsPoint s.called (Run b (body_of r)) first last 0
      → IsPoint s.called (Run (body_mode (rule_at r) m) (body_of r)) first last 0
  in_mode m b {first = first} {last = last} r e p = subst (λ z. IsPoint s.called (Run z (body_of r)) first last 0) (sym e) p

  -- a call that gives a token, and one that gives none
  pub calls : {m b : Mode} {l n w : ℕ} (r : Rule) (first last : ℕ) → IsPoint s.called (Run b (body_of r)) first last 0
      → is_defined r ≡ true → body_mode (rule_at r) m ≡ b → gives_token (type_of_rule r) m ≡ true
      → op_of l ≡ op.Call first (number_of (name_of r)) n w (seen_from m) → op_of last ≡ op.Return
      → Laid (Run m (Ident (name_of r))) l n w
  calls {m} {b} {l} {n} {w} r first last p d e h a z =
      call (rule_at r) first last (seen_from m) (defined_rule r d) h refl (has_op l a) (in_mode m b r e p) (has_op last z)

  pub enters : {m b : Mode} {l n w : ℕ} (r : Rule) (first last : ℕ) → IsPoint s.called (Run b (body_of r)) first last 0
      → is_defined r ≡ true → body_mode (rule_at r) m ≡ b → gives_token (type_of_rule r) m ≡ false
      → op_of l ≡ op.Sub first n w → op_of last ≡ op.Back → Laid (Run m (Ident (name_of r))) l n w
  enters {m} {b} {l} {n} {w} r first last p d e h a z =
      sub (rule_at r) first last (defined_rule r d) h (has_op l a) (in_mode m b r e p) (has_op last z)

  -- the body of a rule whose calls give no token, in the place of a call
  pub within : {m b : Mode} {l n w : ℕ} (r : Rule) → is_defined r ≡ true → body_mode (rule_at r) m ≡ b → gives_token (type_of_rule r) m ≡ false
      → Laid (Run b (body_of r)) l n w → Laid (Run m (Ident (name_of r))) l n w
  within {m} {b} {l} {n} {w} r d e h a =
      in_place (rule_at r) (defined_rule r d) h (subst (λ z. Laid (Run z (body_of r)) l n w) (sym e) a)

  -- a character of a set, and all that follow
  pub one_of : {m : Mode} {e : Expression} {l n w : ℕ} {ranges : List (ℕ × ℕ)} (i : ℕ) → TakesCharacter s.classes m e ranges
      → op_of l ≡ op.One i n w → nat_lt i (length s.sets) ≡ true → get_or s.sets i [] ≡ ranges → Laid (Run m e) l n w
  one_of {l = l} {n = n} {w = w} {ranges = ranges} i x o h e =
      leaf (character_outcome x.set) in_silence x.takes (one_as ranges x.set x.covers s.code number_of fails i (has_set i h e) l n w (has_op l o))

  pub all_of : {m : Mode} {e : Expression} {l n w : ℕ} {ranges : List (ℕ × ℕ)} (i : ℕ) → TakesCharacter s.classes m e ranges → IsTight meta_grammar s.classes m
      → op_of l ≡ op.All i n → nat_lt i (length s.sets) ≡ true → get_or s.sets i [] ≡ ranges → Laid (Run m (Rep e)) l n w
  all_of {m} {e} {l} {n} {w} {ranges} i x t o h k =
      leaf (skip_set x.set) in_silence (span_of_set meta_grammar s.classes m e x.set t x.takes)
      (all_as ranges x.set x.covers s.code number_of fails i (has_set i h k) l n w (has_op l o))

  -- where a task begins: at a label, or behind a test of the next character
  pub at_once : {k : Task} {l w : ℕ} → Enters s.exact meta_grammar s.classes s.code k l l w
  at_once = inl refl

  pub tested : {k : Task} {l j w : ℕ} {ranges : List (ℕ × ℕ)} (i : ℕ) → FailsOutside meta_grammar s.classes k ranges false
      → op_of l ≡ op.IsOne i j w → nat_lt i (length s.sets) ≡ true → get_or s.sets i [] ≡ ranges
      → Enters s.exact meta_grammar s.classes s.code k l j w
  tested {l = l} {w = w} {ranges = ranges} i x o h e =
      inr (record { set = i; ranges = ranges; noted = false; allowed = and-false s.exact; miss = w; tested = has_op l o; is = has_set i h e; fails = x; goes = refl })

  -- a test that notes a failure
  pub noted : {k : Task} {l j w : ℕ} {ranges : List (ℕ × ℕ)} (i miss : ℕ) → s.exact ≡ false → FailsOutside meta_grammar s.classes k ranges true
      → op_of l ≡ op.IsOne i j miss → op_of miss ≡ op.Note w → nat_lt i (length s.sets) ≡ true → get_or s.sets i [] ≡ ranges
      → Enters s.exact meta_grammar s.classes s.code k l j w
  noted {l = l} {w = w} {ranges = ranges} i miss x f o b h e =
      inr (record { set = i; ranges = ranges; noted = true; allowed = ap (λ z. z && true) x; miss = miss; tested = has_op l o; is = has_set i h e; fails = f; goes = has_op miss b })

  -- behind the characters of a set that the turns of a repetition take one by one
  pub behind_all : {k : Task} {l j w : ℕ} {ranges : List (ℕ × ℕ)} (i : ℕ) → TakesOne meta_grammar s.classes k ranges
      → op_of l ≡ op.All i j → nat_lt i (length s.sets) ≡ true → get_or s.sets i [] ≡ ranges
      → EntersTurn s.exact meta_grammar s.classes s.code k l j w
  behind_all {l = l} {ranges = ranges} i x o h e = inr (record { set = i; ranges = ranges; taken = has_op l o; is = has_set i h e; takes = x })

  -- the implicit skipping, and where there is none
  pub trivia_in_place : {l n w : ℕ} → Laid (Run Between skipped) l n w → Laid (Skipping NonAtomicMode) l n w
  trivia_in_place a = skips a

  pub trivia : {l n w : ℕ} (first last : ℕ) → IsPoint s.called (Run Between skipped) first last 0 → op_of l ≡ op.Sub first n w → op_of last ≡ op.Back
      → Laid (Skipping NonAtomicMode) l n w
  trivia {l} first last p a z = routine first last (has_op l a) p (has_op last z)

  pub tight_atomic : IsTight meta_grammar s.classes AtomicMode
  tight_atomic t = (by.atomic, λ place. refl)

  pub tight_compound : IsTight meta_grammar s.classes CompoundAtomicMode
  tight_compound t = (by.compound_atomic, λ place. refl)

  pub tight_between : IsTight meta_grammar s.classes Between
  tight_between t = (by.between, λ place. refl)

  pub atomic : {l w : ℕ} → Laid (Skipping AtomicMode) l l w
  atomic = nothing tight_atomic

  pub compound : {l w : ℕ} → Laid (Skipping CompoundAtomicMode) l l w
  compound = nothing tight_compound

  pub between : {l w : ℕ} → Laid (Skipping Between) l l w
  between = nothing tight_between

  -- a sequence that is tried
  pub tries : {m : Mode} {a b : Expression} {l n w : ℕ} (first j k last : ℕ) → op_of l ≡ op.Try first w → Laid (Run m a) first j 0
      → Laid (Skipping m) j k 0 → Laid (Run m b) k last 0 → op_of last ≡ op.Commit n → Laid (Run m (Seq a b)) l n w
  tries {l = l} first j k last o a b c z = tried_seq first j k last (has_op l o) a b c (has_op last z)

  pub either : {m : Mode} {a b : Expression} {l n w : ℕ} (j first second : ℕ) → nat_lt 0 j ≡ true
      → Enters s.exact meta_grammar s.classes s.code (Run m a) l first j → Laid (Run m a) first n j
      → Enters s.exact meta_grammar s.classes s.code (Run m b) j second w → Laid (Run m b) second n w → Laid (Run m (Choice a b)) l n w
  either j first second h e a f b = choice j first second (ltb-true 0 j h) e a f b

  pub maybe : {m : Mode} {e : Expression} {l n w : ℕ} (first : ℕ) → nat_lt 0 n ≡ true → Enters s.exact meta_grammar s.classes s.code (Run m e) l first n
      → Laid (Run m e) first n n → Laid (Run m (Opt e)) l n w
  maybe {n = n} first h e a = opt first (ltb-true 0 n h) e a

  -- repetitions, without the implicit skipping and with it
  pub many : {m : Mode} {e : Expression} {l n w : ℕ} (first : ℕ) (o : Op) → op_of l ≡ o → ((c : Config) → StopsAt o c → ⊥) → IsTight meta_grammar s.classes m
      → nat_lt 0 n ≡ true → EntersTurn s.exact meta_grammar s.classes s.code (Run m e) l first n → Laid (Run m e) first l n → Laid (Run m (Rep e)) l n w
  many {l = l} {n = n} first o h free t p e a =
      tight_rep first t (λ c z. absurd (free c (subst (λ x. StopsAt x c) (has_op l h) z))) (ltb-true 0 n p) e a

  pub turns : {m : Mode} {e : Expression} {l n w : ℕ} (start turn skip first last : ℕ) → nat_lt 0 n ≡ true
      → Enters s.exact meta_grammar s.classes s.code (Run m e) l start n → op_of start ≡ op.Try first n
      → op_of turn ≡ op.Try skip n → Laid (Skipping m) skip first 0 → Laid (Run m e) first last 0 → op_of last ≡ op.Commit turn
      → Laid (Run m (Rep e)) l n w
  turns {l = l} {n = n} start turn skip first last h x a b c e z =
      rep start turn skip first last (ltb-true 0 n h) x (has_op start a) (has_op turn b) c e (has_op last z)

  pub never : {m : Mode} {e : Expression} {l n w : ℕ} (first last : ℕ) → op_of l ≡ op.Not first n → Laid (Run m e) first last 0
      → op_of last ≡ op.Ahead w → Laid (Run m (NegPred e)) l n w
  never {l = l} first last o a z = neg_pred first last (has_op l o) a (has_op last z)

  -- a comment, with the comments within it, where nothing is skipped
  pub comments : {l n w : ℕ} (i j : ℕ) → op_of l ≡ op.Nested i j n w → get_or s.texts i [] ≡ codes "/*" → get_or s.texts j [] ≡ codes "*/"
      → Laid (Run AtomicMode (Ident (name_of rule.block_comment))) l n w
  unfolding whitespace comment
  comments {l} {n} {w} i j o e f =
      let a : IsAscii (codes "/*") = ascii (codes "/*") refl in
      let b : IsAscii (codes "*/") = ascii (codes "*/") refl in
      within rule.block_comment refl refl refl
      (leaf (comment_outcome (codes "/*") (codes "*/")) in_silence
      (comments_matched meta_grammar s.classes AtomicMode tight_atomic (name_of rule.block_comment) (codes "/*") (codes "*/") any (body_of rule.block_comment) (inl refl)
      (rule_at rule.block_comment) (defined_rule rule.block_comment refl) refl refl refl (any_outcome meta_grammar s.classes AtomicMode tt no_any) (ltb-true 0 2 refl) (ltb-true 0 2 refl))
      (subst (λ t. Performs s.code number_of l n w (comment_outcome t (codes "*/")) in_silence) (chars-IsAscii (codes "/*") a)
      (subst (λ t. Performs s.code number_of l n w (comment_outcome (chars (codes "/*")) t) in_silence) (chars-IsAscii (codes "*/") b)
      (nested_performs s.code number_of fails i j (codes "/*") (codes "*/") (IsUtf8-from_ascii (codes "/*") a) (IsUtf8-from_ascii (codes "*/") b) refl refl
      (ap (λ ts. get_or ts i []) s.has.texts ∙ e) (ap (λ ts. get_or ts j []) s.has.texts ∙ f) l n w (has_op l o)))))
