-- Similar trees are read as the same rules, their spans left out.
use Rattle.std.proofs.Common.{◌≡◌, ◌⊎◌, inl, inr, ℕ, ◌^◌, List, [], ◌∷◌, Option, None, Some, Bool, true, false, not, if◌then◌else◌, refl, sym, ◌∙◌, ap, subst, codes}
use Rattle.std.proofs.lemmas.Bool.{false≢true}
use Rattle.std.proofs.lemmas.Slice.Eq.{bytes_eq-Decides}
use Rattle.std.specs.Prelude.{bytes_eq, chars, nat_lt, nat_eq}
use Rattle.std.specs.List.{slice_range}
use Rattle.std.specs.Option.{option_or}
use Rattle.std.specs.Str.Parse.{digits_value}
use Rattle.base_language.specs.Language.Text.{Text}
use Rattle.base_language.specs.Language.Expression as bare
use Rattle.base_language.specs.Language.Expression.{Expression, Rule, Grammar}
use Rattle.base_language.specs.Language.State.{Trees, None', Tree, joined}
use Rattle.front_spanned.specs.Erasure.{round, without_spans, rule_without_spans, rules_without_spans}
use Rattle.front_spanned.specs.Spanned.{Span, Spanned, Leaf, One, Two, Unary, Seq, Choice, placed, ending, SpannedRule}
use Rattle.front_grammar.specs.Shape.{Lone}
use Rattle.front_reader.specs.Literal.{unescaped}
use Rattle.front_reader.specs.Flaws.{Flaw, Cause, PastU32, ZeroTimes, flaw_if, own_flaw, first_flaw, first_inner, closes}
use Rattle.front_reader.specs.Reading as reading
use Rattle.front_reader.specs.Reading.{Category, Alternatives, Postfix, Postfixed, done, more, Terminal, Reads, both, around, behind_first, literal_value, ReadsRule, ReadsRules}
use Rattle.front_reader.proofs.Flawless.{none_left, none_right, own_none, inner_none, behind_none}
use Rattle.format_grammar.proofs.LeafTokens.{is_quoted, may_hold}
use Rattle.format_grammar.proofs.SimilarTrees.{leaf_text, SameLeaf, Similar, nothing, tree}

not_true : (b : Bool) → not b ≡ true → b ≡ false
not_true true h = absurd (false≢true h)
not_true false h = refl

same_text : (r : Text) (a b : List ℕ) → bytes_eq r (codes "inner_doc") ≡ false → leaf_text r a ≡ leaf_text r b → a ≡ b
same_text r a b h e = rw h at e

-- a node says the same wherever it stands
without-placed : (t : Span) (x : Spanned) → without_spans (placed t x) ≡ without_spans x
without-placed t (Leaf s e) = refl
without-placed t (One s f x) = refl
without-placed t (Two s f x y) = refl

module _ (text other : List ℕ) where
  literal_same : {us vs : Trees} → is_quoted us ≡ true → Similar text other us vs → literal_value text us ≡ literal_value other vs
  literal_same h nothing = absurd (false≢true h)
  literal_same h (tree f a d nothing) = absurd (false≢true h)
  literal_same h (tree f a d (tree {r = r} {i = i} {j = j} {k = k} {l = l} g b nothing s)) =
      ap (λ (t : List ℕ). unescaped (chars t)) (same_text r (slice_range text i j) (slice_range other k l) (not_true _ h) b)
  literal_same h (tree f a d (tree g b (tree q c m n) s)) = absurd (false≢true h)

  postfix_same : {r : Text} {us vs : Trees} {f : Unary} → Postfix text r us f → Similar text other us vs → Postfix other r vs f
  postfix_same reading.opt s = reading.opt
  postfix_same reading.rep s = reading.rep
  postfix_same reading.rep_once s = reading.rep_once
  postfix_same reading.exact (tree _ _ nothing (tree _ a nothing (tree _ _ nothing nothing))) = rw a reading.exact
  postfix_same reading.min (tree _ _ nothing (tree _ a nothing (tree _ _ nothing (tree _ _ nothing nothing)))) = rw a reading.min
  postfix_same reading.max (tree _ _ nothing (tree _ _ nothing (tree _ a nothing (tree _ _ nothing nothing)))) = rw a reading.max
  postfix_same reading.min_max (tree _ _ nothing (tree _ a nothing (tree _ _ nothing (tree _ b nothing (tree _ _ nothing nothing))))) = rw (a, b) reading.min_max

  record IsPostfixed (x : Spanned) (us : Trees) (y : Spanned) : Type 0 where
    node : Spanned
    reads : Postfixed other x us node
    same : without_spans y ≡ without_spans node

  postfixed_same : {x y : Spanned} {us vs : Trees} (z : Spanned) → Postfixed text x us y → Similar text other us vs → without_spans x ≡ without_spans z → IsPostfixed z vs y
  postfixed_same z done nothing e = record { node = z; reads = done; same = e }
  postfixed_same z (more {f = f} p d) (tree {l = l} g a m s) e =
      let after = postfixed_same (around other l f z) d s (ap (round f) e) in
      record { node = after.node; reads = more (postfix_same p m) after.reads; same = after.same }

  terminal_same : {r : Text} {i j k l : ℕ} {us vs : Trees} {e : Expression} → Terminal text r i j us e → may_hold r us ≡ true
      → SameLeaf r us (slice_range text i j) (slice_range other k l) → Similar text other us vs → Terminal other r k l vs e
  terminal_same reading.identifier h a nothing = rw a reading.identifier
  terminal_same reading.identifier h a (tree g b m s) = absurd (false≢true h)
  terminal_same reading.string h a s = rw (literal_same h s) reading.string
  terminal_same reading.insensitive h a (tree g b m s) = rw (literal_same h m) reading.insensitive
  terminal_same reading.range h a (tree f b m (tree _ _ nothing (tree g c n nothing))) = rw (literal_same f m, literal_same g n) reading.range
  terminal_same reading.slice h a (tree _ _ nothing (tree _ _ nothing (tree _ _ nothing nothing))) = reading.slice
  terminal_same reading.slice_from h a (tree _ _ nothing (tree _ b nothing (tree _ _ nothing (tree _ _ nothing nothing)))) = rw b reading.slice_from
  terminal_same reading.slice_to h a (tree _ _ nothing (tree _ _ nothing (tree _ b nothing (tree _ _ nothing nothing)))) = rw b reading.slice_to
  terminal_same reading.slice_between h a (tree _ _ nothing (tree _ b nothing (tree _ _ nothing (tree _ c nothing (tree _ _ nothing nothing))))) = rw (b, c) reading.slice_between

  -- trees that are similar to some and those after them
  record IsJoined (us vs ws : Trees) : Type 0 where
    front : Trees
    back : Trees
    whole : ws ≡ joined front back
    of_front : Similar text other us front
    of_back : Similar text other vs back

  joined_similar : (us vs : Trees) {ws : Trees} → Similar text other (joined us vs) ws → IsJoined us vs ws
  joined_similar None' vs {ws} s = record { front = None'; back = ws; whole = refl; of_front = nothing; of_back = s }
  joined_similar (Tree r i j inner us) vs (tree {k = k} {l = l} {inside = inside} f a m s) =
      let after = joined_similar us vs s in
      record {
        front = Tree r k l inside after.front;
        back = after.back;
        whole = ap (Tree r k l inside) after.whole;
        of_front = tree f a m after.of_front;
        of_back = after.of_back;
      }

  record IsOperator (r : Text) (us vs : Trees) : Type 0 where
    start : ℕ
    end : ℕ
    behind : Trees
    whole : vs ≡ Lone r start end behind
    of_behind : Similar text other us behind

  operator_similar : {r : Text} {i j : ℕ} {us vs : Trees} → Similar text other (Lone r i j us) vs → IsOperator r us vs
  operator_similar (tree {k = k} {l = l} {vs = vs} f a nothing s) = record { start = k; end = l; behind = vs; whole = refl; of_behind = s }

  record IsAlone (r : Text) (us vs : Trees) : Type 0 where
    start : ℕ
    end : ℕ
    inside : Trees
    whole : vs ≡ Tree r start end inside None'
    of_inside : Similar text other us inside

  alone_similar : {r : Text} {i j : ℕ} {us vs : Trees} → Similar text other (Tree r i j us None') vs → IsAlone r us vs
  alone_similar (tree {k = k} {l = l} {inside = inside} f a m nothing) = record { start = k; end = l; inside = inside; whole = refl; of_inside = m }

  -- trees that are read as a node that is the same without its spans
  record IsRead (category : Category) (us : Trees) (x : Spanned) : Type 0 where
    node : Spanned
    reads : Reads other category us node
    same : without_spans x ≡ without_spans node

  choice_same : {us vs ws : Trees} {x y : Spanned} {i j : ℕ} (s : IsJoined us (Lone (codes "choice_operator") i j vs) ws) (o : IsOperator (codes "choice_operator") vs s.back)
      → IsRead Alternatives s.front x → IsRead reading.ASequence o.behind y → IsRead Alternatives ws (both text Choice x y)
  choice_same {ws = ws} {y = y} s o m n =
      let e : ws ≡ joined s.front (Lone (codes "choice_operator") o.start o.end o.behind) = s.whole ∙ ap (joined s.front) o.whole in
      record {
        node = both other Choice m.node n.node;
        reads = subst (λ (us : Trees). Reads other Alternatives us (both other Choice m.node n.node)) (sym e) (reading.choice o.start o.end m.reads n.reads);
        same = ap (λ (a : Expression). bare.Choice a (without_spans y)) m.same ∙ ap (bare.Choice (without_spans m.node)) n.same;
      }

  sequence_same : {us vs ws : Trees} {x y : Spanned} {i j k l : ℕ}
      (s : IsJoined us (Lone (codes "sequence_operator") i j (Tree (codes "term") k l vs None')) ws)
      (o : IsOperator (codes "sequence_operator") (Tree (codes "term") k l vs None') s.back) (t : IsAlone (codes "term") vs o.behind)
      → IsRead reading.ASequence s.front x → IsRead reading.ATerm t.inside y → IsRead reading.ASequence ws (both text Seq x y)
  sequence_same {ws = ws} {y = y} s o t m n =
      let e : ws ≡ joined s.front (Lone (codes "sequence_operator") o.start o.end (Tree (codes "term") t.start t.end t.inside None')) =
      s.whole ∙ ap (joined s.front) (o.whole ∙ ap (Lone (codes "sequence_operator") o.start o.end) t.whole) in
      record {
        node = both other Seq m.node n.node;
        reads = subst (λ (us : Trees). Reads other reading.ASequence us (both other Seq m.node n.node)) (sym e) (reading.sequence o.start o.end t.start t.end m.reads n.reads);
        same = ap (λ (a : Expression). bare.Seq a (without_spans y)) m.same ∙ ap (bare.Seq (without_spans m.node)) n.same;
      }

  reads_same : {category : Category} {us vs : Trees} {x : Spanned} → Reads text category us x → Similar text other us vs → IsRead category vs x
  reads_same (reading.barred d) (tree _ _ nothing s) = let m = reads_same d s in record { node = m.node; reads = reading.barred m.reads; same = m.same }
  reads_same (reading.unbarred d) s = let m = reads_same d s in record { node = m.node; reads = reading.unbarred m.reads; same = m.same }
  reads_same (reading.one_alternative d) s = let m = reads_same d s in record { node = m.node; reads = reading.one_alternative m.reads; same = m.same }
  reads_same (reading.choice i j {us = us} {vs = vs} c d) s =
      let h = joined_similar us (Lone (codes "choice_operator") i j vs) s in
      let o = operator_similar h.of_back in
      choice_same h o (reads_same c h.of_front) (reads_same d o.of_behind)
  reads_same (reading.one_term d) (tree _ _ m nothing) = let n = reads_same d m in record { node = n.node; reads = reading.one_term n.reads; same = n.same }
  reads_same (reading.sequence i j k l {us = us} {vs = vs} c d) s =
      let h = joined_similar us (Lone (codes "sequence_operator") i j (Tree (codes "term") k l vs None')) s in
      let o = operator_similar h.of_back in
      let t = alone_similar o.of_behind in
      sequence_same h o t (reads_same c h.of_front) (reads_same d t.of_inside)
  reads_same (reading.tagged {x = x} d) (tree {k = k} {l = l} _ a nothing (tree _ _ nothing s)) =
      let m = reads_same d s in
      record {
        node = _;
        reads = reading.tagged m.reads;
        same = ap (λ (t : List ℕ). bare.NodeTag (without_spans x) (behind_first (chars t))) a ∙ ap (λ (e : Expression). bare.NodeTag e (behind_first (chars (slice_range other k l)))) m.same;
      }
  reads_same (reading.pos_pred d) (tree _ _ nothing s) = let m = reads_same d s in record { node = _; reads = reading.pos_pred m.reads; same = ap bare.PosPred m.same }
  reads_same (reading.neg_pred d) (tree _ _ nothing s) = let m = reads_same d s in record { node = _; reads = reading.neg_pred m.reads; same = ap bare.NegPred m.same }
  reads_same (reading.bare d p) (tree f a m s) =
      let n = reads_same d (tree f a m nothing) in
      let o = postfixed_same n.node p s n.same in
      record { node = o.node; reads = reading.bare n.reads o.reads; same = o.same }
  reads_same (reading.grouped {x = x} {y = y} d p) (tree _ _ nothing (tree _ _ m (tree {l = l} _ _ nothing s))) =
      let n = reads_same d m in
      let o = postfixed_same (ending l n.node) p s (without-placed _ x ∙ (n.same ∙ sym (without-placed _ n.node))) in
      record { node = _; reads = reading.grouped n.reads o.reads; same = without-placed _ y ∙ (o.same ∙ sym (without-placed _ o.node)) }
  reads_same (reading.leaf t) (tree f a m nothing) = record { node = _; reads = reading.leaf (terminal_same t f a m); same = refl }
  reads_same (reading.pushed d) (tree _ _ (tree _ _ nothing (tree _ _ m (tree _ _ nothing s))) nothing) =
      let n = reads_same d m in
      record { node = _; reads = reading.pushed n.reads; same = ap bare.Push n.same }
  reads_same reading.literally_pushed (tree _ _ (tree _ _ nothing (tree f _ m (tree _ _ nothing nothing))) nothing) =
      record { node = _; reads = reading.literally_pushed; same = ap bare.PushLiteral (literal_same f m) }

  -- comments before rules, and rules
  comment_same : {us vs : Trees} → ReadsRule text us None → Similar text other us vs → ReadsRule other vs None
  comment_same reading.line_doc (tree _ _ m nothing) = reading.line_doc

  record IsRuleRead (us : Trees) (r : SpannedRule) : Type 0 where
    rule : SpannedRule
    reads : ReadsRule other us (Some rule)
    same : rule_without_spans r ≡ rule_without_spans rule

  rule_same : {us vs : Trees} {r : SpannedRule} → ReadsRule text us (Some r) → Similar text other us vs → IsRuleRead vs r
  rule_same (reading.normal d) (tree _ a nothing (tree _ _ nothing (tree _ _ nothing (tree _ _ m (tree _ _ nothing nothing))))) =
      let n = reads_same d m in
      record { rule = _; reads = reading.normal n.reads; same = rw (a, n.same) refl }
  rule_same (reading.modified t d) (tree _ a nothing (tree _ _ nothing (tree _ _ nothing (tree _ _ nothing (tree _ _ m (tree _ _ nothing nothing)))))) =
      let n = reads_same d m in
      record { rule = _; reads = reading.modified t n.reads; same = rw (a, n.same) refl }

  pub record AreRulesRead (us : Trees) (rs : List SpannedRule) : Type 0 where
    pub rules : List SpannedRule
    pub reads : ReadsRules other us rules
    pub same : rules_without_spans rs ≡ rules_without_spans rules

  pub rules_same : {us vs : Trees} {rs : List SpannedRule} → ReadsRules text us rs → Similar text other us vs → AreRulesRead vs rs
  rules_same reading.end_of_input (tree _ _ nothing nothing) = record { rules = []; reads = reading.end_of_input; same = refl }
  rules_same (reading.grammar_doc d) (tree _ _ m s) = let n = rules_same d s in record { rules = n.rules; reads = reading.grammar_doc n.reads; same = n.same }
  rules_same (reading.documented h d) (tree _ _ m s) =
      let n = rules_same d s in
      record { rules = n.rules; reads = reading.documented (comment_same h m) n.reads; same = n.same }
  rules_same (reading.defined {rs = rs} h d) (tree _ _ m s) =
      let n = rules_same d s in
      let q = rule_same h m in
      record {
        rules = q.rule ∷ n.rules;
        reads = reading.defined q.reads n.reads;
        same = ap (λ (x : Rule). x ∷ rules_without_spans rs) q.same ∙ ap (λ (xs : Grammar). rule_without_spans q.rule ∷ xs) n.same;
      }

  -- flaws

  none_both : (a b : Option Flaw) → a ≡ None → b ≡ None → option_or a b ≡ None
  none_both None b p q = q
  none_both (Some f) b p q = p

  no_flaw : (b : Bool) (cause : Cause) (i j k l : ℕ) → flaw_if text b cause i j ≡ None → flaw_if other b cause k l ≡ None
  no_flaw true cause i j k l h = absurd cc
  no_flaw false cause i j k l h = refl

  no_count_flaw : (b : Bool) (n i j k l : ℕ)
      → (if b then option_or (flaw_if text (not (nat_lt n (2 ^ 32))) PastU32 i j) (flaw_if text (nat_eq n 0) ZeroTimes i j) else flaw_if text (not (nat_lt n (2 ^ 32))) PastU32 i j) ≡ None
      → (if b then option_or (flaw_if other (not (nat_lt n (2 ^ 32))) PastU32 k l) (flaw_if other (nat_eq n 0) ZeroTimes k l) else flaw_if other (not (nat_lt n (2 ^ 32))) PastU32 k l) ≡ None
  no_count_flaw true n i j k l h = none_both _ _ (no_flaw (not (nat_lt n (2 ^ 32))) PastU32 i j k l (none_left _ _ h)) (no_flaw (nat_eq n 0) ZeroTimes i j k l (none_right _ _ h))
  no_count_flaw false n i j k l h = no_flaw (not (nat_lt n (2 ^ 32))) PastU32 i j k l h

  closes_same : {us vs : Trees} → Similar text other us vs → closes us ≡ closes vs
  closes_same nothing = refl
  closes_same (tree f a m s) = refl

  first_similar : {us vs : Trees} → Similar text other us vs → Similar text other (first_inner us) (first_inner vs)
  first_similar nothing = nothing
  first_similar (tree f a m s) = m

  -- a tree of a rule has no flaw of its own, if a similar one has none
  abbrev NoOwnFlaw : Text → Type 0
  NoOwnFlaw r = (i j k l : ℕ) (inner inside us vs : Trees) → may_hold r inner ≡ true → SameLeaf r inner (slice_range text i j) (slice_range other k l)
      → Similar text other inner inside → Similar text other us vs → own_flaw text r i j inner us ≡ None → own_flaw other r k l inside vs ≡ None

  string_flaw : NoOwnFlaw (codes "string")
  unfolding own_flaw
  string_flaw i j k l inner inside us vs f a m s h =
      let e = literal_same f m in
      rw (← e) (no_flaw _ _ i j k l h)

  character_flaw : NoOwnFlaw (codes "character")
  unfolding own_flaw
  character_flaw i j k l inner inside us vs f a m s h =
      let e = literal_same f m in
      rw (← e) (no_flaw _ _ i j k l h)

  insensitive_flaw : NoOwnFlaw (codes "insensitive_string")
  unfolding own_flaw
  insensitive_flaw i j k l inner inside us vs f a m s h =
      let e = literal_same f (first_similar m) in
      rw (← e) (no_flaw _ _ i j k l h)

  integer_flaw : NoOwnFlaw (codes "integer")
  unfolding own_flaw
  integer_flaw i j k l inner inside us vs f a nothing s h = rw (← a) (no_flaw _ _ i j k l h)
  integer_flaw i j k l inner inside us vs f a (tree _ _ _ _) s h = absurd (false≢true f)

  number_flaw : NoOwnFlaw (codes "number")
  unfolding own_flaw
  number_flaw i j k l inner inside us vs f a nothing s h =
      let e = closes_same s in
      rw (← a, ← e) (no_count_flaw (closes us) (digits_value 10 (slice_range text i j)) i j k l h)
  number_flaw i j k l inner inside us vs f a (tree _ _ _ _) s h = absurd (false≢true f)

  decide : (r n : Text) → (n ≡ r) ⊎ (bytes_eq r n ≡ false)
  decide r n = by_test (bytes_eq r n) refl
    where
      by_test : (b : Bool) → bytes_eq r n ≡ b → (n ≡ r) ⊎ (bytes_eq r n ≡ false)
      by_test true e = inl (sym ((bytes_eq-Decides r n).0 e))
      by_test false e = inr e

  no_own_flaw : (r : Text) → NoOwnFlaw r
  unfolding own_flaw
  no_own_flaw r = elim (decide r (codes "string")) [
    | inl e ↦ subst NoOwnFlaw e string_flaw
    | inr a ↦ elim (decide r (codes "character")) [
      | inl e ↦ subst NoOwnFlaw e character_flaw
      | inr b ↦ elim (decide r (codes "insensitive_string")) [
        | inl e ↦ subst NoOwnFlaw e insensitive_flaw
        | inr c ↦ elim (decide r (codes "integer")) [
          | inl e ↦ subst NoOwnFlaw e integer_flaw
          | inr d ↦ elim (decide r (codes "number")) [
            | inl e ↦ subst NoOwnFlaw e number_flaw
            | inr n ↦ λ i j k l inner inside us vs f t m s h. rw (a, b, c, d, n) refl
          ]
        ]
      ]
    ]
  ]

  pub flawless_same : {us vs : Trees} → Similar text other us vs → first_flaw text us ≡ None → first_flaw other vs ≡ None
  flawless_same nothing h = refl
  flawless_same (tree {r = r} {i = i} {j = j} {k = k} {l = l} {inner = inner} {inside = inside} {us = us} {vs = vs} f a m s) h =
      none_both _ _ (no_own_flaw r i j k l inner inside us vs f a m s (own_none text r i j inner us h))
      (none_both _ _ (flawless_same m (inner_none text r i j inner us h)) (flawless_same s (behind_none text r i j inner us h)))
