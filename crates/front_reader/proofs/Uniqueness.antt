-- Trees are read in one way at most.
use Rattle.std.proofs.Common.{◌≡◌, ◌⊎◌, inl, inr, ℕ, suc, ◌+◌, List, ◌∷◌, Option, Some, None, Bool, true, false, if◌then◌else◌, ◌||◌, refl, sym, ap, ◌∙◌, subst, arith, zero-add}
use Rattle.std.proofs.lemmas.Bool.{false≢true}
use Rattle.std.proofs.lemmas.Slice.Eq.{bytes_eq-Decides}
use Rattle.std.specs.Prelude.{codes, bytes_eq}
use Rattle.base_language.specs.Language.Text.{Text}
use Rattle.base_language.specs.Language.Expression.{Expression, RuleType, Normal}
use Rattle.base_language.specs.Language.State.{Trees, None', Tree, joined}
use Rattle.base_language.specs.Pieces.Saying.{piece}
use Rattle.front_reader.specs.Reading as reading
use Rattle.front_reader.specs.Reading.{Category, AnExpression, Alternatives, ASequence, ATerm, ANode, Modifies, Postfix, Postfixed, done, more, Terminal, Reads, barred, unbarred, one_alternative, choice, one_term, sequence, tagged, pos_pred, neg_pred, bare, grouped, leaf, pushed, literally_pushed, tag_name, both, around, characters_between, ReadsRule, ReadsRules, line_doc, normal, modified, end_of_input, grammar_doc, documented, defined}
use Rattle.front_grammar.specs.Shape.{Lone}
use Rattle.front_spanned.specs.Spanned.{Spanned, Unary, SpannedRule, Seq, Choice, ending, starting, end_of, Leaf, One, PosPred, NegPred, Push, Tag}

-- names that a test tells apart
apart : (a b : Text) → bytes_eq a b ≡ false → a ≡ b → ⊥
apart a b h e = false≢true (sym h ∙ (bytes_eq-Decides a b).1 e)

-- operators and terminals

postfix_once : {text : List ℕ} {r : Text} {us : Trees} {f g : Unary} → Postfix text r us f
    → Postfix text r us g → f ≡ g
postfix_once reading.opt reading.opt = refl
postfix_once reading.rep reading.rep = refl
postfix_once reading.rep_once reading.rep_once = refl
postfix_once reading.exact reading.exact = refl
postfix_once reading.min reading.min = refl
postfix_once reading.max reading.max = refl
postfix_once reading.min_max reading.min_max = refl

postfixed_once : {text : List ℕ} {x y z : Spanned} {us : Trees} → Postfixed text x us y
    → Postfixed text x us z → y ≡ z
postfixed_once done done = refl
postfixed_once {text} {x} {z = z} (more {to = j} {us = us} p d) (more q e) = postfixed_once d (subst (λ f. Postfixed text (around text j f x) us z) (sym (postfix_once p q)) e)

terminal_once : {text : List ℕ} {r : Text} {i j : ℕ} {us : Trees} {e f : Expression}
    → Terminal text r i j us e → Terminal text r i j us f → e ≡ f
terminal_once reading.identifier reading.identifier = refl
terminal_once reading.string reading.string = refl
terminal_once reading.insensitive reading.insensitive = refl
terminal_once reading.range reading.range = refl
terminal_once reading.slice reading.slice = refl
terminal_once reading.slice_from reading.slice_from = refl
terminal_once reading.slice_to reading.slice_to = refl
terminal_once reading.slice_between reading.slice_between = refl

-- the rules of nodes; the first tree of a term is one of them, or another
is_node : Text → Bool
is_node r = bytes_eq r (codes "identifier") || (bytes_eq r (codes "string") || (bytes_eq r (codes "insensitive_string") || (bytes_eq r (codes "range") || (bytes_eq r (codes "peek_slice") || (bytes_eq r (codes "_push") || bytes_eq r (codes "_push_literal"))))))

terminal_name : {text : List ℕ} {r : Text} {i j : ℕ} {us : Trees} {e : Expression} → Terminal text r i j us e
    → is_node r ≡ true
unfolding is_node
terminal_name reading.identifier = refl
terminal_name reading.string = refl
terminal_name reading.insensitive = refl
terminal_name reading.range = refl
terminal_name reading.slice = refl
terminal_name reading.slice_from = refl
terminal_name reading.slice_to = refl
terminal_name reading.slice_between = refl

node_name : {text : List ℕ} {r : Text} {i j : ℕ} {inner us : Trees} {x : Spanned}
    → Reads text ANode (Tree r i j inner us) x → is_node r ≡ true
unfolding is_node
node_name (leaf t) = terminal_name t
node_name (pushed d) = refl
node_name literally_pushed = refl

other_name : {text : List ℕ} {r : Text} {i j : ℕ} {inner us : Trees} {x : Spanned} {A : Type 0}
    → is_node r ≡ false → Reads text ANode (Tree r i j inner us) x → A
other_name h d = absurd (false≢true (sym h ∙ node_name d))

-- chains

one_more : (b : Bool) (m n : ℕ) → (if b then suc (m + n) else m + n) ≡ (if b then suc m else m) + n
one_more true m n = omega arith
one_more false m n = refl

-- how many bars stand side by side with the first tree
bars : Trees → ℕ
bars None' = 0
bars (Tree r i j inner us) = if bytes_eq r (codes "choice_operator") then suc (bars us) else bars us

bars-joined : (us vs : Trees) → bars (joined us vs) ≡ bars us + bars vs
unfolding bars
bars-joined None' vs = sym (zero-add (bars vs))
bars-joined (Tree r i j inner us) vs = ap (λ n. if bytes_eq r (codes "choice_operator") then suc n else n) (bars-joined us vs) ∙ one_more (bytes_eq r (codes "choice_operator")) (bars us) (bars vs)

bars-bar : (us vs : Trees) (i j : ℕ) → bars (joined us (Lone (codes "choice_operator") i j vs)) ≡ 0 → ⊥
unfolding bars
bars-bar us vs i j h = let e = bars-joined us (Lone (codes "choice_operator") i j vs) in absurd (omega (arith, e, h))

-- a list splits at its last bar in one way
last_bar : (us vs us' vs' : Trees) (i j k l : ℕ) → bars vs ≡ 0 → bars vs' ≡ 0
    → joined us (Lone (codes "choice_operator") i j vs) ≡ joined us' (Lone (codes "choice_operator") k l vs')
    → (us ≡ us') × (i ≡ k) × (j ≡ l) × (vs ≡ vs')
last_bar None' vs None' vs' i j k l h h' e = (refl, cc, cc, cc)
last_bar None' vs (Tree r a b inner us') vs' i j k l h h' e = let f : vs ≡ joined us' (Lone (codes "choice_operator") k l vs') = cc in absurd (bars-bar us' vs' k l (ap bars (sym f) ∙ h))
last_bar (Tree r a b inner us) vs None' vs' i j k l h h' e = let f : vs' ≡ joined us (Lone (codes "choice_operator") i j vs) = cc in absurd (bars-bar us vs i j (ap bars (sym f) ∙ h'))
last_bar (Tree r a b inner us) vs (Tree r' a' b' inner' us') vs' i j k l h h' e =
    let f : joined us (Lone (codes "choice_operator") i j vs) ≡ joined us' (Lone (codes "choice_operator") k l vs') = cc in
    let g = last_bar us vs us' vs' i j k l h h' f in
    let u = g.0 in
    (cc, g.1, g.2, g.3)

-- a list whose last two trees are known splits before them in one way
two : ℕ → ℕ → ℕ → ℕ → Trees → Trees
two i j k l vs = Lone (codes "sequence_operator") i j (Tree (codes "term") k l vs None')

not_empty : (us vs : Trees) (i j k l : ℕ) → None' ≡ joined us (two i j k l vs) → ⊥
unfolding two
not_empty None' vs i j k l e = cc
not_empty (Tree r a b inner us) vs i j k l e = cc

last_two : (us vs us' vs' : Trees) (i j k l i' j' k' l' : ℕ)
    → joined us (two i j k l vs) ≡ joined us' (two i' j' k' l' vs')
    → (us ≡ us') × (i ≡ i') × (j ≡ j') × (k ≡ k') × (l ≡ l') × (vs ≡ vs')
unfolding two
last_two None' vs None' vs' i j k l i' j' k' l' e = (refl, cc, cc, cc, cc, cc)
last_two None' vs (Tree r a b inner None') vs' i j k l i' j' k' l' e = cc
last_two None' vs (Tree r a b inner (Tree s c d inner' us')) vs' i j k l i' j' k' l' e = let f : None' ≡ joined us' (two i' j' k' l' vs') = cc in absurd (not_empty us' vs' i' j' k' l' f)
last_two (Tree r a b inner None') vs None' vs' i j k l i' j' k' l' e = cc
last_two (Tree r a b inner (Tree s c d inner' us)) vs None' vs' i j k l i' j' k' l' e = let f : None' ≡ joined us (two i j k l vs) = cc in absurd (not_empty us vs i j k l f)
last_two (Tree r a b inner us) vs (Tree r' a' b' inner' us') vs' i j k l i' j' k' l' e =
    let f : joined us (two i j k l vs) ≡ joined us' (two i' j' k' l' vs') = cc in
    let g = last_two us vs us' vs' i j k l i' j' k' l' f in
    let u = g.0 in
    (cc, g.1, g.2, g.3, g.4, g.5)

one_is_not_two : (us vs ws : Trees) (i j k l a b : ℕ)
    → Tree (codes "term") a b ws None' ≡ joined us (two i j k l vs) → ⊥
unfolding two
one_is_not_two None' vs ws i j k l a b e = cc
one_is_not_two (Tree r c d inner us) vs ws i j k l a b e = let f : None' ≡ joined us (two i j k l vs) = cc in not_empty us vs i j k l f

sequence-bars : {text : List ℕ} {us : Trees} {x : Spanned} → Reads text ASequence us x → bars us ≡ 0
unfolding bars
sequence-bars (one_term d) = refl
sequence-bars (sequence i j k l {us = us} {vs = vs} d e) = bars-joined us (Lone (codes "sequence_operator") i j (Tree (codes "term") k l vs None')) ∙ ap (λ n. n + 0) (sequence-bars d)

-- the first tree of alternatives is a term
starts_with : Text → Trees → Bool
starts_with r None' = false
starts_with r (Tree s i j inner us) = bytes_eq s r

starts-joined : (r : Text) (us vs : Trees) → starts_with r us ≡ true → starts_with r (joined us vs) ≡ true
unfolding starts_with
starts-joined r None' vs h = absurd (false≢true h)
starts-joined r (Tree s i j inner us) vs h = h

sequence-starts : {text : List ℕ} {us : Trees} {x : Spanned} → Reads text ASequence us x
    → starts_with (codes "term") us ≡ true
unfolding starts_with
sequence-starts (one_term d) = refl
sequence-starts (sequence i j k l {us = us} {vs = vs} d e) = starts-joined (codes "term") us (Lone (codes "sequence_operator") i j (Tree (codes "term") k l vs None')) (sequence-starts d)

alternatives-starts : {text : List ℕ} {us : Trees} {x : Spanned} → Reads text Alternatives us x
    → starts_with (codes "term") us ≡ true
alternatives-starts (one_alternative d) = sequence-starts d
alternatives-starts (choice i j {us = us} {vs = vs} d e) = starts-joined (codes "term") us (Lone (codes "choice_operator") i j vs) (alternatives-starts d)

bar_first : {text : List ℕ} {i j : ℕ} {us : Trees} {x : Spanned} {A : Type 0}
    → Reads text Alternatives (Lone (codes "choice_operator") i j us) x → A
unfolding starts_with
bar_first d = absurd (false≢true (alternatives-starts d))

-- alternatives are a sequence, or split at their last bar
record Splits (text : List ℕ) (us : Trees) (x : Spanned) : Type 0 where
  start : ℕ
  end : ℕ
  front : Trees
  back : Trees
  first : Spanned
  last : Spanned
  split : us ≡ joined front (Lone (codes "choice_operator") start end back)
  reads_front : Reads text Alternatives front first
  reads_back : Reads text ASequence back last
  whole : x ≡ both text Choice first last

alternatives_cases : {text : List ℕ} {us : Trees} {x : Spanned} → Reads text Alternatives us x
    → Reads text ASequence us x ⊎ Splits text us x
alternatives_cases (one_alternative d) = inl d
alternatives_cases (choice i j {us = us} {vs = vs} {x = x} {y = y} d e) = inr (record { start = i; end = j; front = us; back = vs; first = x; last = y; split = refl; reads_front = d; reads_back = e; whole = refl })

-- a sequence is a term, or splits at its last tilde
record SplitsLast (text : List ℕ) (us : Trees) (x : Spanned) : Type 0 where
  i : ℕ
  j : ℕ
  k : ℕ
  l : ℕ
  front : Trees
  back : Trees
  first : Spanned
  last : Spanned
  split : us ≡ joined front (two i j k l back)
  reads_front : Reads text ASequence front first
  reads_back : Reads text ATerm back last
  whole : x ≡ both text Seq first last

record IsOneTerm (text : List ℕ) (us : Trees) (x : Spanned) : Type 0 where
  start : ℕ
  end : ℕ
  inner : Trees
  alone : us ≡ Tree (codes "term") start end inner None'
  reads_inner : Reads text ATerm inner x

sequence_cases : {text : List ℕ} {us : Trees} {x : Spanned} → Reads text ASequence us x
    → IsOneTerm text us x ⊎ SplitsLast text us x
unfolding two
sequence_cases (one_term {us = us} {from = i} {to = j} d) = inl (record { start = i; end = j; inner = us; alone = refl; reads_inner = d })
sequence_cases (sequence i j k l {us = us} {vs = vs} {x = x} {y = y} d e) = inr (record { i = i; j = j; k = k; l = l; front = us; back = vs; first = x; last = y; split = refl; reads_front = d; reads_back = e; whole = refl })

-- one reading
pub reads_once : {text : List ℕ} {category : Category} {us : Trees} {x y : Spanned} → Reads text category us x
    → Reads text category us y → x ≡ y
unfolding two is_node
reads_once (barred d) (barred e) = reads_once d e
reads_once (barred d) (unbarred e) = bar_first e
reads_once (unbarred d) (barred e) = bar_first d
reads_once (unbarred d) (unbarred e) = reads_once d e
reads_once {text} (one_alternative {us = us} d) e = elim (alternatives_cases e) [
  | inl f ↦ reads_once d f
  | inr f ↦ absurd (bars-bar f.front f.back f.start f.end (ap bars (sym f.split) ∙ sequence-bars d))
]
reads_once {text} {y = y} (choice i j {us = us} {vs = vs} {x = x'} {y = y'} c d) e = elim (alternatives_cases e) [
  | inl f ↦ absurd (bars-bar us vs i j (sequence-bars f))
  | inr f ↦
      let g = last_bar us vs f.front f.back i j f.start f.end (sequence-bars d) (sequence-bars f.reads_back) f.split in
      let m = reads_once c (subst (λ ws. Reads text Alternatives ws f.first) (sym g.0) f.reads_front) in
      let n = reads_once d (subst (λ ws. Reads text ASequence ws f.last) (sym g.3) f.reads_back) in
      ap (λ z. both text Choice z y') m ∙ ap (λ z. both text Choice f.first z) n ∙ sym f.whole
]
reads_once {text} (one_term {us = us} {from = i} {to = j} d) e = elim (sequence_cases e) [
  | inl f ↦
      let g : us ≡ f.inner = let h = f.alone in cc in
      reads_once d (subst (λ ws. Reads text ATerm ws _) (sym g) f.reads_inner)
  | inr f ↦ absurd (one_is_not_two f.front f.back us f.i f.j f.k f.l i j f.split)
]
reads_once {text} (sequence i j k l {us = us} {vs = vs} {x = x'} {y = y'} c d) e = elim (sequence_cases e) [
  | inl f ↦ absurd (one_is_not_two us vs f.inner i j k l f.start f.end (sym f.alone))
  | inr f ↦
      let g = last_two us vs f.front f.back i j k l f.i f.j f.k f.l f.split in
      let m = reads_once c (subst (λ ws. Reads text ASequence ws f.first) (sym g.0) f.reads_front) in
      let n = reads_once d (subst (λ ws. Reads text ATerm ws f.last) (sym g.5) f.reads_back) in
      ap (λ z. both text Seq z y') m ∙ ap (λ z. both text Seq f.first z) n ∙ sym f.whole
]
reads_once {text} (tagged {tag_at = i} {tag_to = j} d) (tagged e) = ap (λ z. One (piece text i (end_of z)) (Tag (tag_name text i j)) z) (reads_once d e)
reads_once (tagged d) (bare e q) = other_name refl e
reads_once {text} (pos_pred {sign_at = i} d) (pos_pred e) = ap (λ z. One (piece text i (end_of z)) PosPred z) (reads_once d e)
reads_once (pos_pred d) (bare e q) = other_name refl e
reads_once {text} (neg_pred {sign_at = i} d) (neg_pred e) = ap (λ z. One (piece text i (end_of z)) NegPred z) (reads_once d e)
reads_once (neg_pred d) (bare e q) = other_name refl e
reads_once (bare d p) (tagged e) = other_name refl d
reads_once (bare d p) (pos_pred e) = other_name refl d
reads_once (bare d p) (neg_pred e) = other_name refl d
reads_once (bare d p) (grouped e q) = other_name refl d
reads_once {text} {y = z} (bare {us = us} d p) (bare e q) = postfixed_once p (subst (λ x. Postfixed text x us z) (sym (reads_once d e)) q)
reads_once {text} (grouped {open_at = i} {close_to = n} {us = us} d p) (grouped {y = z} e q) = ap (starting i) (postfixed_once p (subst (λ x. Postfixed text (ending n x) us z) (sym (reads_once d e)) q))
reads_once (grouped d p) (bare e q) = other_name refl e
reads_once {text} (leaf {from = i} {to = j} t) (leaf u) = ap (λ f. Leaf (piece text i j) f) (terminal_once t u)
reads_once (leaf t) (pushed e) = elim t [ ]
reads_once (leaf t) literally_pushed = elim t [ ]
reads_once (pushed d) (leaf u) = elim u [ ]
reads_once literally_pushed (leaf u) = elim u [ ]
reads_once literally_pushed literally_pushed = refl
reads_once {text} (pushed {from = i} d) (pushed e) = ap (λ z. One (piece text i (end_of z)) Push z) (reads_once d e)

-- rules

modifier_once : {r : Text} {t u : RuleType} → Modifies r t → Modifies r u → t ≡ u
modifier_once reading.silent reading.silent = refl
modifier_once reading.atomic reading.atomic = refl
modifier_once reading.compound_atomic reading.compound_atomic = refl
modifier_once reading.non_atomic reading.non_atomic = refl

rule_once : {text : List ℕ} {us : Trees} {r q : Option SpannedRule} → ReadsRule text us r
    → ReadsRule text us q → r ≡ q
rule_once line_doc line_doc = refl
rule_once {text} (normal {from = i} {to = j} d) (normal e) = ap (λ x. Some (record { name = characters_between text i j; span = piece text i j; type_of = Normal; body = x })) (reads_once d e)
rule_once {text} (modified {from = i} {to = j} {t = t} m d) (modified {x = y} n e) =
    ap (λ x. Some (record { name = characters_between text i j; span = piece text i j; type_of = t; body = x })) (reads_once d e)
    ∙ ap (λ u. Some (record { name = characters_between text i j; span = piece text i j; type_of = u; body = y })) (modifier_once m n)

one_rule : {text : List ℕ} {us : Trees} {r q : SpannedRule} → ReadsRule text us (Some r)
    → ReadsRule text us (Some q) → r ≡ q
one_rule d e = let f = rule_once d e in cc

some_or_none : {text : List ℕ} {us : Trees} {r : SpannedRule} {A : Type 0} → ReadsRule text us None
    → ReadsRule text us (Some r) → A
some_or_none d e = let f = rule_once d e in absurd cc

pub rules_once : {text : List ℕ} {us : Trees} {rs qs : List SpannedRule} → ReadsRules text us rs
    → ReadsRules text us qs → rs ≡ qs
rules_once end_of_input end_of_input = refl
rules_once (grammar_doc d) (grammar_doc e) = rules_once d e
rules_once (documented h d) (documented k e) = rules_once d e
rules_once (documented h d) (defined k e) = some_or_none h k
rules_once (defined h d) (documented k e) = some_or_none k h
rules_once (defined {r = r} h d) (defined {rs = qs} k e) = ap (λ ts. r ∷ ts) (rules_once d e) ∙ ap (λ q. q ∷ qs) (one_rule h k)
