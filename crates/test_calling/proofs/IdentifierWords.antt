-- The texts that the rule `identifier` takes have no `#`.
use Rattle.std.proofs.Common.{◌≡◌, refl, sym, ap, subst, ◌∙◌, ℕ, ◌+◌, List, [], ◌∷◌, ◌++◌, Bool, true, false, ◌==◌, ◌&&◌, ◌||◌, Option, Some, None, if◌then◌else◌, bytes_eq, nat_eq, nat_le, length, take, drop, chars, ne_eqb, arith}
use lib.Utf8.{scalars}
use Rattle.std.specs.Prelude.{nat_lt}
use Rattle.std.specs.List.{slice_range}
use Rattle.std.specs.Str.{IsUtf8}
use Rattle.std.proofs.lemmas.Bool.{leb-true, ltb-true}
use Rattle.std.proofs.lemmas.Slice.Eq.{bytes_eq-Decides}
use Rattle.std.proofs.lemmas.Str.{encodes-append, chars-encodes, scalars-chars}
use Rattle.std.proofs.Math.Seq.{drop-append_seam, take-append_seam}
use Rattle.std.proofs.Math.Utf8.{encodes}
use Rattle.base_language.specs.Language.Expression as spec
use Rattle.base_language.specs.Language.Text.{Text, size_of}
use Rattle.base_language.specs.Language.Expression.{Expression, Str, Range, Ident, NegPred, Seq, Choice, Rep, rule_of}
use Rattle.base_language.specs.Language.State.{Classes, State, Mode, AtomicMode, Trees, None', Outcome, Success, Failure, moved}
use Rattle.base_language.specs.Language.Matching.{begins, starts_in, range_set}
use Rattle.base_language.specs.Language.Meaning.{Does, Task, Run, Turns, Skipping, str, insens, range, slice, skip, call, other, pos_pred, neg_pred, push, restore, seq, seq_first, seq_second, left, right, opt, opt_none, rep, rep_none, turn, turn_none, rep_once, rep_exact, rep_min, rep_max, rep_min_max, skips, atomic, compound_atomic, between, not_ahead, with_token, body_mode, mode_in, push_literal, tag}
use Rattle.base_language.specs.Language.Places.{IsStateIn}
use Rattle.base_language.specs.Pieces.MetaRules.{name_of}
use Rattle.base_language.specs.declared.grammar.Rule.{Rule}
use Rattle.base_language.specs.declared.grammar.Rule.TheVariants as is
use Rattle.base_language.proofs.Basics.{first_of_both, second_of_both, same_some}
use Rattle.base_language.proofs.Beginnings.{begins-gives, scalars_parts}
use Rattle.base_language.proofs.InBytes.{sizes, split_bytes}
use Rattle.front_grammar.specs.MetaGrammar.{meta_grammar, rule_at, type_of_rule, body_of}
use Rattle.front_grammar.specs.Rules.{is_blank}
use Rattle.front_grammar.proofs.Lookup.{blank_name, defined_rule}
use Rattle.front_grammar.proofs.Numerals.{middle}
use Rattle.front_grammar.proofs.Taken.{Took, Stretch, EndsIn, took_both, took_nothing, one_taken}
use Rattle.front_reader.specs.Reading.{characters_between}
use Rattle.matcher_support.specs.Names.{tag_in}

-- 1. texts without `#`
abbrev pub IsUnmarked : Text → Type 0
IsUnmarked w = tag_in w ≡ None

unmarked_both : (v w : Text) → IsUnmarked v → IsUnmarked w → IsUnmarked (v ++ w)
unmarked_both [] w h k = k
unmarked_both (c ∷ v) w h k = go (c == 35) (λ i. unmarked_both v w i k) h
  where
    go : (b : Bool) → (IsUnmarked v → IsUnmarked (v ++ w)) → (if b then Some v else tag_in v) ≡ None → (if b then Some (v ++ w) else tag_in (v ++ w)) ≡ None
    go true others i = cc
    go false others i = others i

abbrev has_none : Option Text → Bool
has_none (Some t) = false
has_none None = true

none_so : (o : Option Text) → has_none o ≡ true → o ≡ None
none_so None h = refl
none_so (Some t) h = cc

-- 2. expressions that take such texts alone
abbrev begins_above : Text → Bool
begins_above [] = true
begins_above (c ∷ t) = nat_lt 35 c

abbrev is_word_rule : Text → Bool
is_word_rule n = bytes_eq (name_of is.alpha) n || bytes_eq (name_of is.alpha_num) n

abbrev takes_words : Expression → Bool
takes_words (Str t) = has_none (tag_in t)
takes_words (Range a b) = begins_above a
takes_words (Ident n) = is_word_rule n
takes_words (NegPred e) = true
takes_words (Seq a b) = takes_words a && takes_words b
takes_words (Choice a b) = takes_words a && takes_words b
takes_words (Rep e) = takes_words e
takes_words _ = false

abbrev TakesWords : Task → Type 0
TakesWords (Run m e) = (m ≡ AtomicMode) × (takes_words e ≡ true)
TakesWords (Turns m e) = (m ≡ AtomicMode) × (takes_words e ≡ true)
TakesWords (Skipping m) = m ≡ AtomicMode

abbrev IsWord : State → State → Type 0
IsWord s u = Stretch IsUnmarked s u

takes_none : false ≡ true → ⊥
takes_none h = cc

empty_word : (s : State) → IsWord s s
empty_word s = record { word = []; kind = refl; took = took_nothing s }

joined_words : {s t u : State} → IsWord s t → IsWord t u → IsWord s u
joined_words a b = record {
  word = a.word ++ b.word;
  kind = unmarked_both a.word b.word a.kind b.kind;
  took = took_both a.took b.took;
}

-- a literal, and a character of a range
literal_word : (t : Text) (s : State) → tag_in t ≡ None → (b : Bool) → begins nat_eq t s.rest ≡ b → EndsIn (IsWord s) (if b then Success (moved (length t) s) None' else Failure)
literal_word t s h false e = tt
literal_word t s h true e =
    let x = begins-gives t s.rest e in
    let dropped : drop (length t) s.rest ≡ x.0 = ap (drop (length t)) x.1 ∙ drop-append_seam t x.0 in
    let taken : take (length t) s.rest ≡ t = ap (take (length t)) x.1 ∙ take-append_seam t x.0 in
    record {
      word = t;
      kind = h;
      took = record { split = x.1 ∙ ap (λ l. t ++ l) (sym dropped); place = ap (λ l. s.position + size_of l) taken };
    }

above : (a b : Text) (c : ℕ) → begins_above a ≡ true → range_set a b c ≡ true → IsUnmarked (c ∷ [])
above [] b c h k = cc
above (a ∷ t) [] c h k = cc
above (a ∷ t) (b ∷ u) c h k =
    let low = ltb-true 35 a h in
    let high = leb-true a c (first_of_both (nat_le a c) (nat_le c b) k) in
    let other : nat_eq c 35 ≡ false = ne_eqb c 35 (λ (e : c ≡ 35). omega (arith, e, low, high)) in
    rw other refl

range_word : (a b : Text) (s : State) → begins_above a ≡ true → (t : Bool) → starts_in (range_set a b) s.rest ≡ t → EndsIn (IsWord s) (if t then Success (moved 1 s) None' else Failure)
range_word a b s h false e = tt
range_word a b s h true e =
    let x = one_taken (range_set a b) s (moved 1 s) e refl in
    record { word = x.word; kind = rw x.kind.1 (above a b x.kind.0 h x.kind.2); took = x.took }

-- a call of a rule of letters
abbrev Body : spec.Rule → Type 0
Body q = TakesWords (Run (body_mode q AtomicMode) q.body)

atomic_body : (r : Rule) → mode_in (type_of_rule r) (is_blank r) AtomicMode ≡ AtomicMode → body_mode (rule_at r) AtomicMode ≡ AtomicMode
atomic_body r h = ap (λ b. mode_in (type_of_rule r) b AtomicMode) (blank_name r) ∙ h

alpha_body : Body (rule_at is.alpha)
alpha_body = (atomic_body is.alpha refl, refl)

alpha_num_body : Body (rule_at is.alpha_num)
alpha_num_body = (atomic_body is.alpha_num refl, refl)

meant : (r : Rule) (n : Text) (o : Option spec.Rule) → rule_of meta_grammar (name_of r) ≡ Some (rule_at r) → bytes_eq (name_of r) n ≡ true → rule_of meta_grammar n ≡ o → Some (rule_at r) ≡ o
meant r n o d h e = sym d ∙ ap (rule_of meta_grammar) ((bytes_eq-Decides (name_of r) n).0 h) ∙ e

of_rule : (r : Rule) (q : spec.Rule) → Body (rule_at r) → Some (rule_at r) ≡ Some q → Body q
of_rule r q x e = subst Body (same_some e) x

word_body : (n : Text) (q : spec.Rule) → is_word_rule n ≡ true → rule_of meta_grammar n ≡ Some q → Body q
word_body n q h e = go (bytes_eq (name_of is.alpha) n) refl h
  where
    go : (b : Bool) → bytes_eq (name_of is.alpha) n ≡ b → (b || bytes_eq (name_of is.alpha_num) n) ≡ true → Body q
    go true i k = of_rule is.alpha q alpha_body (meant is.alpha n (Some q) (defined_rule is.alpha refl) i e)
    go false i k = of_rule is.alpha_num q alpha_num_body (meant is.alpha_num n (Some q) (defined_rule is.alpha_num refl) k e)

no_rule : (r : spec.Rule) → Some r ≡ None → ⊥
no_rule r h = cc

word_defined : (n : Text) → is_word_rule n ≡ true → rule_of meta_grammar n ≡ None → ⊥
word_defined n h e = go (bytes_eq (name_of is.alpha) n) refl h
  where
    go : (b : Bool) → bytes_eq (name_of is.alpha) n ≡ b → (b || bytes_eq (name_of is.alpha_num) n) ≡ true → ⊥
    go true i k = no_rule (rule_at is.alpha) (meant is.alpha n None (defined_rule is.alpha refl) i e)
    go false i k = no_rule (rule_at is.alpha_num) (meant is.alpha_num n None (defined_rule is.alpha_num refl) k e)

call_word : (r : spec.Rule) (m : Mode) (s : State) (o : Outcome) → EndsIn (IsWord s) o → EndsIn (IsWord s) (with_token r m s o)
call_word r m s Failure h = tt
call_word r m s (Success t us) h = h

not_ahead_word : (s : State) (o : Outcome) → EndsIn (IsWord s) (not_ahead s o)
not_ahead_word s Failure = empty_word s
not_ahead_word s (Success t us) = tt

module _ (classes : Classes) where
  word_taken : {k : Task} {s : State} {o : Outcome} → Does meta_grammar classes k s o → TakesWords k → EndsIn (IsWord s) o
  word_taken (str {t = t} {s = s}) h = literal_word t s (none_so (tag_in t) h.1) (begins nat_eq t s.rest) refl
  word_taken (range {a = a} {b = b} {s = s}) h = range_word a b s h.1 (starts_in (range_set a b) s.rest) refl
  word_taken (call {m = m} {n = n} {s = s} {o = o} {r = r} e d) h =
      let x = word_body n r h.1 e in
      call_word r m s o (word_taken d (ap (body_mode r) h.0 ∙ x.0, x.1))
  word_taken (other {n = n} e b) h = absurd (word_defined n h.1 e)
  word_taken (neg_pred {s = s} {o = o} d) h = not_ahead_word s o
  word_taken (seq {a = a} {b = b} x k y) h =
      joined_words (word_taken x (h.0, first_of_both (takes_words a) (takes_words b) h.1))
      (joined_words (word_taken k h.0) (word_taken y (h.0, second_of_both (takes_words a) (takes_words b) h.1)))
  word_taken (seq_first x) h = tt
  word_taken (seq_second x k y) h = tt
  word_taken (left {a = a} {b = b} x) h = word_taken x (h.0, first_of_both (takes_words a) (takes_words b) h.1)
  word_taken (right {a = a} {b = b} x y) h = word_taken y (h.0, second_of_both (takes_words a) (takes_words b) h.1)
  word_taken (rep x y) h = joined_words (word_taken x h) (word_taken y h)
  word_taken (rep_none {s = s} x) h = empty_word s
  word_taken (turn k x y) h = joined_words (word_taken k h.0) (joined_words (word_taken x h) (word_taken y h))
  word_taken (turn_none {s = s} k x) h = empty_word s
  word_taken (atomic {s = s}) h = empty_word s
  word_taken (compound_atomic {s = s}) h = empty_word s
  word_taken (between {s = s}) h = empty_word s
  word_taken (skips d) h = cc
  word_taken insens h = absurd (takes_none h.1)
  word_taken slice h = absurd (takes_none h.1)
  word_taken skip h = absurd (takes_none h.1)
  word_taken (pos_pred d) h = absurd (takes_none h.1)
  word_taken (push d) h = absurd (takes_none h.1)
  word_taken push_literal h = absurd (takes_none h.1)
  word_taken (tag d) h = absurd (takes_none h.1)
  word_taken (restore d) h = absurd (takes_none h.1)
  word_taken (opt d) h = absurd (takes_none h.1)
  word_taken (opt_none d) h = absurd (takes_none h.1)
  word_taken (rep_once d) h = absurd (takes_none h.1)
  word_taken (rep_exact d) h = absurd (takes_none h.1)
  word_taken (rep_min d) h = absurd (takes_none h.1)
  word_taken (rep_max d) h = absurd (takes_none h.1)
  word_taken (rep_min_max d) h = absurd (takes_none h.1)

-- 3. names are what is written between its two places
module _ (text : List ℕ) (utf8 : IsUtf8 text) (s u : State) (stands : IsStateIn (chars text) s) where
  written : (w : Text) → Took s u w → characters_between text s.position u.position ≡ w
  written w took =
      let front = stands.front in
      let all : chars text ≡ front ++ (w ++ u.rest) = stands.split ∙ ap (λ l. front ++ l) took.split in
      let bytes : text ≡ encodes front ++ (encodes w ++ encodes u.rest) = split_bytes text utf8 front (w ++ u.rest) all ∙ ap (λ l. encodes front ++ l) (encodes-append w u.rest) in
      let e : slice_range text s.position u.position ≡ encodes w =
      middle (encodes front) (encodes w) (encodes u.rest) text s.position u.position bytes (stands.size ∙ sizes front) (took.place ∙ ap (λ n. s.position + n) (sizes w)) in
      let scalar : scalars w ≡ true = (scalars_parts w u.rest (scalars_parts front (w ++ u.rest) (ap scalars (sym all) ∙ scalars-chars text utf8)).1).0 in
      ap chars e ∙ chars-encodes w scalar

  pub unmarked_between : (classes : Classes) (m : Mode) (us : Trees) → Does meta_grammar classes (Run (body_mode (rule_at is.identifier) m) (body_of is.identifier)) s (Success u us)
      → IsUnmarked (characters_between text s.position u.position)
  unmarked_between classes m us d =
      let x : IsWord s u = word_taken classes d (refl, refl) in
      subst IsUnmarked (sym (written x.word x.took)) x.kind
