-- Alternatives and sequences, read from their front.
use Rattle.front_reader.proofs.SpansArePieces.{piece_in}
use Rattle.std.proofs.Common.{◌≡◌, ◌≤◌, ℕ, List, None, refl, sym, ap, ◌∙◌, subst, arith}
use Rattle.std.specs.Prelude.{codes}
use Rattle.base_language.specs.Language.Text.{Text}
use Rattle.base_language.specs.Language.State.{Trees, None', Tree, joined}
use Rattle.front_reader.specs.Flaws.{own_flaw}
use Rattle.front_reader.specs.Pieces.{IsPiece, NestedInBytes, AreInText}
use Rattle.front_reader.specs.Reading as reading
use Rattle.front_reader.specs.Reading.{Reads, AnExpression, Alternatives, ASequence, ATerm, both}
use Rattle.base_language.specs.Pieces.MetaRules.{name_of}
use Rattle.front_grammar.specs.Shape.{Lone, IsExpression, AreTerms, IsMore, IsTerm, barred, unbarred, terms, infix_operator, tilde, bar}
use Rattle.front_spanned.specs.Spanned.{Span, Spanned, Binary, Seq, Choice}
use Rattle.front_reader.specs.Levels.{InFront, SplitOff}
use Rattle.front_reader.specs.Views.{IsAfterBar, IsRest, at_bar, TakesTerm, takes_term}
use Rattle.front_spanned.specs.Nodes.{view}
use Rattle.base_language.specs.declared.grammar.Rule.{Rule}
use Rattle.base_language.specs.declared.grammar.Rule.TheVariants as rule_is
use Rattle.front_spanned.specs.declared.node.ParserNode.{ParserNode}
use Rattle.front_spanned.proofs.Places.{span_of-view}
use Rattle.front_reader.proofs.Nodes.{start_of-view, end_of-view}
use Rattle.front_reader.proofs.TreesStandInText.{stand_inner, stand_behind}
use Rattle.base_language.proofs.MetaNames.{name_of-injective}
use Rattle.base_language.proofs.Steps.{joined_nil, joined_assoc}
use Rattle.front_reader.proofs.NodesStandInTrees.{reads_within, nested_joined}

-- a bar before the first alternative

pub with_bar : {text : List ℕ} {i j : ℕ} {inner us : Trees}
    → IsExpression text (Tree (codes "choice_operator") i j inner us)
    → IsAfterBar text (Tree (codes "choice_operator") i j inner us) us
unfolding own_flaw
with_bar (barred h) = record { shape = h; nested = λ s. stand_behind s; reads = λ x d. reading.barred d; flaws = refl; shorter = omega arith }
with_bar (unbarred h) = elim h [ ]

pub no_expression : {text : List ℕ} → IsExpression text None' → ⊥
no_expression (unbarred h) = elim h [ ]

pub without_bar : {text : List ℕ} {n : Text} {i j : ℕ} {inner us : Trees} (r : Rule)
    → IsExpression text (Tree n i j inner us) → n ≡ name_of r → ¬ (r ≡ rule_is.choice_operator)
    → IsAfterBar text (Tree n i j inner us) (Tree n i j inner us)
without_bar r (barred h) e d = absurd (d (name_of-injective r rule_is.choice_operator (sym e)))
without_bar r (unbarred h) e d = record { shape = h; nested = λ s. s; reads = λ x k. reading.unbarred k; flaws = refl; shorter = omega arith }

-- the first term of a terms, and what is behind it
pub chain_tree : {text : List ℕ} {n : Text} {i j : ℕ} {inner us : Trees} → AreTerms text (Tree n i j inner us)
    → (n ≡ codes "term") × IsTerm text inner × IsMore text us
chain_tree (terms h k) = (refl, h, k)

-- a tilde and a term, or the end of a sequence
pub no_tilde : {text : List ℕ} {n : Text} {i j : ℕ} {inner us : Trees} (r : Rule)
    → IsMore text (Tree n i j inner us) → n ≡ name_of r → ¬ (r ≡ rule_is.sequence_operator)
    → IsRest text (Tree n i j inner us)
no_tilde r (infix_operator tilde h) e d = absurd (d (name_of-injective r rule_is.sequence_operator (sym e)))
no_tilde r (infix_operator bar h) e d = at_bar h

pub lone_tilde : {text : List ℕ} {i j : ℕ} {inner : Trees}
    → IsMore text (Tree (codes "sequence_operator") i j inner None') → ⊥
lone_tilde (infix_operator p h) = elim h [ ]

pub tilde_term : {text : List ℕ} {n : Text} {i j k l : ℕ} {inner us vs : Trees}
    → IsMore text (Tree (codes "sequence_operator") i j us (Tree n k l inner vs))
    → TakesTerm text (Tree (codes "sequence_operator") i j us (Tree n k l inner vs)) inner vs
tilde_term (infix_operator p (terms h k)) = takes_term h k

-- from the start of one node to the end of another
pub piece_across : (text : List ℕ) (m n : ParserNode) → m.span.text.now ≡ text → n.span.text.now ≡ text
    → m.span.start ≤ n.span.end → IsPiece text m.span.start n.span.end
piece_across text m n e f h =
    let p = piece_in m.span e in
    let q = piece_in n.span f in
    record { starts = p.starts; ends = q.ends; order = h }

-- where two nodes are read as one, and its trees stand in the text
joined_piece : {text : List ℕ} {category : reading.Category} {us : Trees} {f : Binary} (m n : ParserNode) (i j : ℕ)
    → m.span.text.now ≡ text → n.span.text.now ≡ text → Reads text category us (both text f (view m) (view n))
    → NestedInBytes text us i j → IsPiece text m.span.start n.span.end
joined_piece {text} m n i j e f d h =
    let w = reads_within text d i j h in
    piece_across text m n e f (rw (start_of-view m, end_of-view n) at w.order)

pub same_text : {text : List ℕ} {category : reading.Category} {us : Trees} (n : ParserNode) (i j : ℕ)
    → Reads text category us (view n) → NestedInBytes text us i j → n.span.text.now ≡ text
same_text {text} n i j d h =
    let w = reads_within text d i j h in
    sym (ap (λ (s : Span). s.text) (span_of-view n)) ∙ w.same_text

module _ (text : List ℕ) where
  -- sequences

  pub sequence_start : {i j : ℕ} {inner rest : Trees} {x : Spanned} → Reads text ATerm inner x
      → InFront text (Tree (codes "term") i j inner rest) rest x
  sequence_start {i} {j} {inner} d = record { front = Tree (codes "term") i j inner None'; split = refl; reads = reading.one_term d }

  pub sequence_step : {i j k l : ℕ} {us inner rest : Trees} {x y : Spanned}
      → InFront text us (Lone (codes "sequence_operator") i j (Tree (codes "term") k l inner rest)) x
      → Reads text ATerm inner y → InFront text us rest (both text Seq x y)
  sequence_step {i} {j} {k} {l} {inner = inner} {rest = rest} h d = record {
    front = joined h.front (Lone (codes "sequence_operator") i j (Tree (codes "term") k l inner None'));
    split = h.split ∙ sym (joined_assoc h.front (Lone (codes "sequence_operator") i j (Tree (codes "term") k l inner None')) rest);
    reads = reading.sequence i j k l h.reads d;
  }

  -- trees in front of others stand in the text where both do
  pub stand_front : (us vs ws : Trees) → us ≡ joined vs ws → AreInText text us → AreInText text vs
  stand_front us vs ws e h = let s = nested_joined text vs ws h.from h.to (rw e at h.nested) in record { from = h.from; to = s.0; nested = s.1 }

  pub stand_rest : (us vs ws : Trees) → us ≡ joined vs ws → AreInText text us → AreInText text ws
  stand_rest us vs ws e h = let s = nested_joined text vs ws h.from h.to (rw e at h.nested) in record { from = s.0; to = h.to; nested = s.2 }

  pub sequence_piece : {i j k l : ℕ} {us inner rest : Trees} (m n : ParserNode) → AreInText text us
      → InFront text us (Lone (codes "sequence_operator") i j (Tree (codes "term") k l inner rest)) (view m)
      → Reads text ATerm inner (view n) → IsPiece text m.span.start n.span.end
  sequence_piece {i} {j} {k} {l} {us} {inner} {rest} m n s h d =
      let t = sequence_step h d in
      let v = stand_front us t.front rest t.split s in
      let u = stand_front us h.front (Lone (codes "sequence_operator") i j (Tree (codes "term") k l inner rest)) h.split s in
      let w = stand_rest us h.front (Lone (codes "sequence_operator") i j (Tree (codes "term") k l inner rest)) h.split s in
      let z = stand_inner (stand_behind w) in
      joined_piece m n v.from v.to (same_text m u.from u.to h.reads u.nested) (same_text n z.from z.to d z.nested) t.reads v.nested

  -- expressions

  pub expression_start : {us vs front rest : Trees} {x : Spanned} → IsAfterBar text us vs → AreInText text us
      → vs ≡ joined front rest → Reads text ASequence front x → SplitOff text us rest x
  expression_start {vs = vs} {front = front} b s e d = record { front = front; whole = vs; split = e; reads = reading.one_alternative d; behind = b.reads; standing = b.nested s }

  pub expression_step : {i j : ℕ} {us vs front rest : Trees} {x y : Spanned}
      → SplitOff text us (Lone (codes "choice_operator") i j vs) x → vs ≡ joined front rest
      → Reads text ASequence front y → SplitOff text us rest (both text Choice x y)
  expression_step {i} {j} {us} {vs} {front} {rest} h e d = record {
    front = joined h.front (Lone (codes "choice_operator") i j front);
    whole = h.whole;
    split = h.split ∙ rw e (sym (joined_assoc h.front (Lone (codes "choice_operator") i j front) rest));
    reads = reading.choice i j h.reads d;
    behind = h.behind;
    standing = h.standing;
  }

  pub expression_piece : {i j : ℕ} {us vs front : Trees} (rest : Trees) (m n : ParserNode)
      → SplitOff text us (Lone (codes "choice_operator") i j vs) (view m) → vs ≡ joined front rest
      → Reads text ASequence front (view n) → IsPiece text m.span.start n.span.end
  unfolding expression_step
  expression_piece {i} {j} {us} {vs} {front} rest m n h e d =
      let t = expression_step h e d in
      let v = stand_front h.whole t.front rest t.split h.standing in
      let u = stand_front h.whole h.front (Lone (codes "choice_operator") i j vs) h.split h.standing in
      let w = stand_behind (stand_rest h.whole h.front (Lone (codes "choice_operator") i j vs) h.split h.standing) in
      let z = stand_front vs front rest e w in
      joined_piece m n v.from v.to (same_text m u.from u.to h.reads u.nested) (same_text n z.from z.to d z.nested) t.reads v.nested

  pub expression_end : {us : Trees} {x : Spanned} → SplitOff text us None' x → Reads text AnExpression us x
  expression_end {us} {x} h = h.behind x (subst (λ vs. Reads text Alternatives vs x) (sym (h.split ∙ joined_nil h.front)) h.reads)

-- the rest of a sequence: a bar and terms
pub rest_tree : {text : List ℕ} {n : Text} {i j : ℕ} {inner us : Trees} → IsRest text (Tree n i j inner us)
    → (n ≡ codes "choice_operator") × (inner ≡ None') × AreTerms text us
rest_tree (at_bar h) = (refl, refl, h)

pub no_chain : {text : List ℕ} → AreTerms text None' → ⊥
no_chain h = elim h [ ]

-- nothing is wrong with a bar or a term by itself
pub quiet_bar : (text : List ℕ) (i j : ℕ) (us vs : Trees)
    → own_flaw text (codes "choice_operator") i j us vs ≡ None
unfolding own_flaw
quiet_bar text i j us vs = refl

pub quiet_term : (text : List ℕ) (i j : ℕ) (us vs : Trees) → own_flaw text (codes "term") i j us vs ≡ None
unfolding own_flaw
quiet_term text i j us vs = refl
