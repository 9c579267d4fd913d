-- Terms and nodes, by the trees in them.
use Rattle.front_reader.proofs.SpansArePieces.{piece_in}
use Rattle.std.proofs.Common.{◌≡◌, ℕ, List, refl, sym, ap, ◌∙◌, arith}
use Rattle.std.specs.Prelude.{codes}
use Rattle.std.specs.Option.{option_or}
use Rattle.base_language.specs.Language.Text.{Text}
use Rattle.base_language.specs.Language.State.{Trees, None', Tree}
use Rattle.front_reader.specs.Flaws.{first_flaw, own_flaw}
use Rattle.front_reader.specs.Pieces.{IsPiece, NestedInBytes, AreInText}
use Rattle.front_reader.specs.Reading as reading
use Rattle.front_reader.specs.Reading.{Reads, AnExpression, ATerm, ANode, tag_name}
use Rattle.base_language.specs.Pieces.MetaRules.{name_of}
use Rattle.front_grammar.specs.Shape.{Lone, IsTerm, IsNode, IsTerminal, ArePostfixes, tagged, predicate, bare, terminal, pushed, identifier, string, insensitive, range, slice, push_literal}
use Rattle.front_spanned.specs.Spanned as spanned
use Rattle.front_spanned.specs.Spanned.{Spanned, One, PosPred, NegPred, Push, Tag, span_of, end_of, placed, starting, ending}
use Rattle.front_reader.specs.Signs.{IsOperand, group, node}
use Rattle.front_reader.specs.Views.{IsNodeBefore}
use Rattle.front_spanned.specs.Nodes.{view, piece_of}
use Rattle.base_language.specs.declared.grammar.Rule.{Rule}
use Rattle.base_language.specs.declared.grammar.Rule.TheVariants as rule_is
use Rattle.front_spanned.specs.declared.node.ParserNode.{ParserNode}
use Rattle.front_spanned.proofs.Places.{span_of-view}
use Rattle.front_reader.proofs.FlawsInOrder.{or_none, or_assoc}
use Rattle.front_reader.proofs.Chains.{same_text}
use Rattle.front_reader.proofs.Nodes.{end_of-view, view_at-placed}
use Rattle.front_reader.proofs.TreesStandInText.{nested_from, nested_order}
use Rattle.base_language.proofs.MetaNames.{name_of-injective}
use Rattle.base_language.specs.Pieces.Saying.{piece}
use Rattle.front_reader.proofs.NodesStandInTrees.{reads_within, span_of-placed}

pub no_term : {text : List ℕ} → IsTerm text None' → ⊥
no_term h = elim h [ ]

-- a tag

pub lone_tag : {text : List ℕ} {i j : ℕ} {inner : Trees}
    → IsTerm text (Tree (codes "tag_id") i j inner None') → ⊥
lone_tag (predicate p h) = elim p [ ]
lone_tag (bare (terminal h) k) = elim h [ ]

pub tag_tree : {text : List ℕ} {n : Text} {i j k l : ℕ} {inner vs us : Trees}
    → IsTerm text (Tree (codes "tag_id") i j inner (Tree n k l vs us))
    → IsTerm text us × (first_flaw text (Tree (codes "tag_id") i j inner (Tree n k l vs us)) ≡ first_flaw text us) × ((x : Spanned) → Reads text ATerm us x → Reads text ATerm (Tree (codes "tag_id") i j inner (Tree n k l vs us)) (One (piece text i (end_of x)) (Tag (tag_name text i j)) x))
unfolding own_flaw
tag_tree (tagged h) = (h, refl, λ x d. reading.tagged d)
tag_tree (predicate p h) = elim p [ ]
tag_tree (bare (terminal h) k) = elim h [ ]

-- predicates
pub record IsPredicate (text : List ℕ) (r : Text) (i j : ℕ) (inner us : Trees) (f : spanned.Unary) : Type 0 where
  pub operand : IsTerm text us
  pub flaw : first_flaw text (Tree r i j inner us) ≡ first_flaw text us
  pub reads : (x : Spanned) → Reads text ATerm us x
      → Reads text ATerm (Tree r i j inner us) (One (piece text i (end_of x)) f x)

pub positive_tree : {text : List ℕ} {i j : ℕ} {inner us : Trees}
    → IsTerm text (Tree (codes "positive_predicate_operator") i j inner us)
    → IsPredicate text (codes "positive_predicate_operator") i j inner us PosPred
unfolding own_flaw
positive_tree (predicate p h) = record { operand = h; flaw = refl; reads = λ x d. reading.pos_pred d }
positive_tree (bare (terminal h) k) = elim h [ ]

pub negative_tree : {text : List ℕ} {i j : ℕ} {inner us : Trees}
    → IsTerm text (Tree (codes "negative_predicate_operator") i j inner us)
    → IsPredicate text (codes "negative_predicate_operator") i j inner us NegPred
unfolding own_flaw
negative_tree (predicate p h) = record { operand = h; flaw = refl; reads = λ x d. reading.neg_pred d }
negative_tree (bare (terminal h) k) = elim h [ ]

-- parentheses

pub paren_tree : {text : List ℕ} {i j : ℕ} {inner us : Trees}
    → IsOperand text (Tree (codes "opening_paren") i j inner us) → inner ≡ None'
paren_tree (group h k) = refl
paren_tree (node (terminal h) k) = elim h [ ]

pub lone_paren : {text : List ℕ} {i j : ℕ} → IsOperand text (Lone (codes "opening_paren") i j None') → ⊥
lone_paren (node (terminal h) k) = elim h [ ]

pub open_group : {text : List ℕ} {n : Text} {i j k l : ℕ} {inner : Trees}
    → IsOperand text (Lone (codes "opening_paren") i j (Tree n k l inner None')) → ⊥
open_group (node (terminal h) k) = elim h [ ]

-- the others: a node, and operators

pub node_tree : {text : List ℕ} {n : Text} {i j : ℕ} {inner us : Trees} (r : Rule)
    → IsOperand text (Tree n i j inner us) → n ≡ name_of r → ¬ (r ≡ rule_is.opening_paren)
    → IsNode text n inner × ArePostfixes text us
node_tree r (group h k) e d = absurd (d (name_of-injective r rule_is.opening_paren (sym e)))
node_tree r (node h k) e d = (h, k)

pub terminal_tree : {text : List ℕ} {n : Text} {us : Trees} (r : Rule) → IsNode text n us → n ≡ name_of r
    → ¬ (r ≡ rule_is._push) → IsTerminal text n us
terminal_tree r (terminal h) e d = h
terminal_tree r (pushed h) e d = absurd (d (name_of-injective r rule_is._push (sym e)))

-- the flaw of a tree that has no other behind it, with one behind it
quiet_behind : (text : List ℕ) {n : Text} (i j : ℕ) (inner us : Trees) → IsNode text n inner
    → own_flaw text n i j inner us ≡ own_flaw text n i j inner None'
unfolding own_flaw
quiet_behind text i j inner us (terminal identifier) = refl
quiet_behind text i j inner us (terminal (string h)) = refl
quiet_behind text i j inner us (terminal (insensitive h)) = refl
quiet_behind text i j inner us (terminal (range h k)) = refl
quiet_behind text i j inner us (terminal (slice h)) = refl
quiet_behind text i j inner us (terminal (push_literal h)) = refl
quiet_behind text i j inner us (pushed h) = refl

pub node_flaw : (text : List ℕ) {n : Text} (i j : ℕ) (inner us : Trees) → IsNode text n inner
    → first_flaw text (Tree n i j inner us) ≡ option_or (first_flaw text (Tree n i j inner None'))
    (first_flaw text us)
node_flaw text {n} i j inner us h =
    rw (quiet_behind text i j inner us h, or_none (first_flaw text inner)) (sym (or_assoc (own_flaw text n i j inner None') (first_flaw text inner) (first_flaw text us)))

-- `PUSH`

pub lone_push : {text : List ℕ} → IsNode text (codes "_push") None' → ⊥
lone_push (terminal h) = elim h [ ]

pub open_push : {text : List ℕ} {n : Text} {i j : ℕ} {inner : Trees}
    → IsNode text (codes "_push") (Tree n i j inner None') → ⊥
open_push (terminal h) = elim h [ ]

-- where nodes of terms stand

-- a node before its operators
pub before_operators : {text : List ℕ} {r : Text} {a b : ℕ} {inner us : Trees} (n : ParserNode)
    → AreInText text (Tree r a b inner us) → Reads text ANode (Tree r a b inner None') (view n)
    → IsNodeBefore text n us
before_operators {text} {r} {a} {b} {inner} {us} n s d =
    let t : NestedInBytes text (Tree r a b inner None') s.from b = (s.nested.0, s.nested.1, s.nested.2, s.nested.3, omega arith) in
    let w = reads_within text d s.from b t in
    record {
      same_text = same_text n s.from b d t;
      behind = record { to = s.to; nested = nested_from text us n.span.end b s.to (rw (end_of-view n) at w.before) s.nested.4 };
    }

-- a node that is placed elsewhere in the text
view_placed : (t : spanned.Span) (n x : ParserNode) → x.expr ≡ n.expr → piece_of x.span ≡ t
    → view x ≡ placed t (view n)
view_placed t n x e f = rw (e, f) (view_at-placed (piece_of n.span) t n.expr)

pub view_ending : {text : List ℕ} {j : ℕ} (n x : ParserNode) → n.span.text.now ≡ text → x.expr ≡ n.expr
    → piece_of x.span ≡ piece text n.span.start j → view x ≡ ending j (view n)
view_ending {text} {j} n x h e f =
    let s = ap (λ (t : spanned.Span). record t { end = j }) (span_of-view n) in
    let k = ap (λ u. piece u n.span.start j) (sym h) ∙ sym s in
    view_placed (piece text n.span.start j) n x e f ∙ ap (λ t. placed t (view n)) k

pub view_starting : {text : List ℕ} {i : ℕ} (n x : ParserNode) → n.span.text.now ≡ text → x.expr ≡ n.expr
    → piece_of x.span ≡ piece text i n.span.end → view x ≡ starting i (view n)
view_starting {text} {i} n x h e f =
    let s = ap (λ (t : spanned.Span). record t { start = i }) (span_of-view n) in
    let k = ap (λ u. piece u i n.span.end) (sym h) ∙ sym s in
    view_placed (piece text i n.span.end) n x e f ∙ ap (λ t. placed t (view n)) k

-- what stands in parentheses, ended with the second
pub record Inside (text : List ℕ) (q : ℕ) (n : ParserNode) (operators : Trees) : Type 0 where
  pub same_text : n.span.text.now ≡ text
  pub place : IsPiece text n.span.start q
  pub before : (x : ParserNode) → piece_of x.span ≡ piece text n.span.start q → IsNodeBefore text x operators

pub inside : {text : List ℕ} {r o p : Text} {i j k l m q : ℕ} {vs inner ws us : Trees} (n : ParserNode)
    → AreInText text (Tree r i j vs (Tree o k l inner (Tree p m q ws us)))
    → Reads text AnExpression inner (view n) → Inside text q n us
inside {text} {k = k} {l = l} {m = m} {q = q} {ws = ws} n s d =
    let t = s.nested.4 in
    let u = t.4 in
    let w = reads_within text d k l t.3 in
    let e = same_text n k l d t.3 in
    let f = piece_in n.span e in
    let b = rw (end_of-view n) at w.before in
    record {
      same_text = e;
      place = record { starts = f.starts; ends = u.2; order = omega (arith, f.order, b, u.0, nested_order text ws m q u.3) };
      before = λ x h. record {
        same_text = ap (λ (v : spanned.Span). v.text) h;
        behind = record { to = s.to; nested = rw (ap (λ (v : spanned.Span). v.end) h) u.4 };
      };
    }

-- the outermost node of a group, begun with the first
pub record Outermost (text : List ℕ) (i : ℕ) (n : ParserNode) : Type 0 where
  pub same_text : n.span.text.now ≡ text
  pub place : IsPiece text i n.span.end

pub outermost : {text : List ℕ} {r : Text} {i j : ℕ} {vs us : Trees} (n : ParserNode)
    → AreInText text (Tree r i j vs us) → Reads text ATerm (Tree r i j vs us) (starting i (view n))
    → Outermost text i n
outermost {text} {i = i} n s d =
    let w = reads_within text d s.from s.to s.nested in
    let f = span_of-placed (record (span_of (view n)) { start = i }) (view n) in
    let e = sym (ap (λ (v : spanned.Span). v.text) (span_of-view n)) ∙ sym (ap (λ (v : spanned.Span). v.text) f) ∙ w.same_text in
    let o = rw (ap (λ (v : spanned.Span). v.start) f, ap (λ (v : spanned.Span). v.end) f, end_of-view n) at w.order in
    let p = piece_in n.span e in
    record { same_text = e; place = record { starts = s.nested.1; ends = p.ends; order = o } }

-- from `PUSH` to the end of its operand
pub push_piece : {text : List ℕ} {r : Text} {i j : ℕ} {us inner : Trees} (n : ParserNode)
    → AreInText text (Tree r i j us None') → AreInText text inner → Reads text AnExpression inner (view n)
    → Reads text ANode (Tree r i j us None') (One (piece text i (end_of (view n))) Push (view n))
    → IsPiece text i n.span.end
push_piece {text} n s k d e =
    let w = reads_within text e s.from s.to s.nested in
    let p = piece_in n.span (same_text n k.from k.to d k.nested) in
    record { starts = s.nested.1; ends = p.ends; order = rw (end_of-view n) at w.order }
