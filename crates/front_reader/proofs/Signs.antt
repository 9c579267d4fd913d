-- Signs of predicates, and tags: what stands behind them, and what they make of it.
use Rattle.std.proofs.Common.{◌≡◌, ◌≤◌, ℕ, List, [], ◌∷◌, ◌++◌, true, false, Some, refl, sym, ap, ◌∙◌, subst, arith}
use Rattle.std.proofs.lemmas.Str.{chars_past_char}
use Rattle.std.proofs.lemmas.List.Elements.{All-nil, All-push, All-pop}
use Rattle.std.specs.Prelude.{codes, chars, All, IsUtf8, encode_utf8}
use Rattle.std.specs.Borrow.{Bor}
use Rattle.std.specs.Str.{IsCharBoundary}
use Rattle.base_language.specs.Language.Text.{Text}
use Rattle.base_language.specs.Language.State.{Trees, None', Tree}
use Rattle.base_language.specs.Pieces.Span.{span_text, span_start, span_end}
use Rattle.base_language.specs.Pieces.MetaRules.{name_of}
use Rattle.base_language.specs.declared.grammar.Rule.{Rule}
use Rattle.base_language.specs.declared.grammar.Rule.TheVariants as rule_is
use Rattle.base_language.proofs.MetaNames.{name_of-injective}
use Rattle.base_language.specs.Pieces.Saying.{piece}
use Rattle.front_grammar.specs.Shape.{Lone, IsTerm, tagged, predicate, grouped, bare, terminal, positive, negative}
use Rattle.front_spanned.specs.Spanned.{Spanned, One, Unary, PosPred, NegPred, Tag, end_of}
use Rattle.front_spanned.specs.Nodes.{view, piece_of}
use Rattle.front_spanned.specs.declared.node.ParserNode.{ParserNode}
use Rattle.front_reader.specs.Flaws.{first_flaw, own_flaw}
use Rattle.front_reader.specs.Pieces.{IsPiece, NestedInBytes, AreInText}
use Rattle.front_reader.specs.Reading as reading
use Rattle.front_reader.specs.Reading.{Reads, ATerm, tag_name, behind_first}
use Rattle.front_reader.specs.Signs as signs
use Rattle.front_reader.specs.Signs.{sign_of, signed, IsOperand, AreSignsIn, IsAfterSigns}
use Rattle.front_reader.specs.Views.{count_of}
use Rattle.front_reader.specs.declared.rules.signs.Sign.{Sign}
use Rattle.front_reader.specs.declared.rules.signs.SignKind.TheVariants as sign_is
use Rattle.front_reader.proofs.Chains.{same_text}
use Rattle.front_reader.proofs.Nodes.{start_of-view, end_of-view}
use Rattle.front_reader.proofs.SpansArePieces.{piece_in}
use Rattle.front_reader.proofs.TreesStandInText.{nested_order}
use Rattle.front_reader.proofs.Terms.{tag_tree, positive_tree, negative_tree}
use Rattle.front_reader.proofs.NodesStandInTrees.{reads_within}

-- one sign more
pub signed-push : (text : List ℕ) (signs : List Sign) (sign : Sign) (x : Spanned)
    → signed text (signs ++ sign ∷ []) x
    ≡ signed text signs (One (piece text sign.start (end_of x)) (sign_of sign.kind) x)
signed-push text [] sign x = refl
signed-push text (s ∷ signs) sign x =
    ap (λ y. One (piece text s.start (end_of x)) (sign_of s.kind) y) (signed-push text signs sign x)

-- what is left of a term, behind the signs so far
pub record IsLeftOfTerm (text : List ℕ) (us : Trees) (signs : List Sign) (vs : Trees) : Type 0 where
  pub shape : IsTerm text vs
  pub flaws : first_flaw text us ≡ first_flaw text vs
  pub shorter : count_of vs ≤ count_of us
  pub reads : (x : Spanned) → Reads text ATerm vs x → Reads text ATerm us (signed text signs x)
  pub stand : AreInText text us → AreSignsIn text signs vs

pub term_start : {text : List ℕ} {us : Trees} → IsTerm text us → IsLeftOfTerm text us [] us
term_start {text} {us} h = record {
  shape = h;
  flaws = refl;
  shorter = omega arith;
  reads = λ x d. d;
  stand = λ s. record { from = s.from; to = s.to; nested = s.nested; before = All-nil _ };
}

-- signs stand before what is behind the first tree
stand_next : {text : List ℕ} {signs : List Sign} {r : Text} {i j : ℕ} {inner us : Trees}
    → AreSignsIn text signs (Tree r i j inner us) → AreSignsIn text signs us
stand_next {text} {r = r} {i = i} {j = j} {inner = inner} s =
    let o = nested_order text inner i j s.nested.3 in
    record {
      from = j;
      to = s.to;
      nested = s.nested.4;
      before = λ k d h. let b = s.before k d h in (b.0, omega (arith, b.1, s.nested.0, o));
    }

-- the first tree is a piece of the text
pub sign_piece : {text : List ℕ} {signs : List Sign} {r : Text} {i j : ℕ} {inner us : Trees}
    → AreSignsIn text signs (Tree r i j inner us) → IsPiece text i j
sign_piece {text} {i = i} {j = j} {inner = inner} s =
    record { starts = s.nested.1; ends = s.nested.2; order = nested_order text inner i j s.nested.3 }

-- and so does the sign that the first tree is
stand_push : {text : List ℕ} {signs : List Sign} {r : Text} {j : ℕ} {inner us : Trees} (sign : Sign)
    → AreSignsIn text signs (Tree r sign.start j inner us) → AreSignsIn text (signs ++ sign ∷ []) us
stand_push {text} {signs} {r} {j} {inner} {us} sign s =
    let t = stand_next s in
    let o = nested_order text inner sign.start j s.nested.3 in
    record {
      from = j;
      to = s.to;
      nested = s.nested.4;
      before = All-push (λ (b : Sign). IsCharBoundary text b.start × (b.start ≤ j)) signs sign
          (λ k d h. let b = s.before k d h in (b.0, omega (arith, b.1, s.nested.0, o))) (s.nested.1, o);
    }

-- a text without its first character
pub name_behind : (bs given r left : List ℕ) (c : ℕ) → IsUtf8 bs → given ≡ bs → given ≡ encode_utf8 c ++ r
    → left ≡ r → chars left ≡ behind_first (chars bs)
name_behind bs given r left c u g e l =
    ap chars l ∙ sym (ap behind_first (chars_past_char bs r c u (sym g ∙ e)))

pub term_tag : {text : List ℕ} {us : Trees} {signs : List Sign} {n : Text}
    {i j k l : ℕ} {inner vs ws : Trees} (tag : Bor (List ℕ)) → chars tag.now ≡ tag_name text i j
    → IsLeftOfTerm text us signs (Tree (codes "tag_id") i j inner (Tree n k l vs ws))
    → IsLeftOfTerm text us (signs ++ record { kind = sign_is.Tag tag; start = i } ∷ []) ws
term_tag {text} {us} {signs} {n} {i} {j} {k} {l} {inner} {vs} {ws} tag e h =
    let g = tag_tree h.shape in
    let whole = Tree (codes "tag_id") i j inner (Tree n k l vs ws) in
    record {
      shape = g.0;
      flaws = h.flaws ∙ g.1;
      shorter = omega (arith, h.shorter);
      reads = λ x d. rw signed-push (h.reads _ (subst (λ t. Reads text ATerm whole (One (piece text i (end_of x)) (Tag t) x)) (sym e) (g.2 x d)));
      stand = λ s. stand_next (stand_push (record { kind = sign_is.Tag tag; start = i }) (h.stand s));
    }

pub term_positive : {text : List ℕ} {us : Trees} {signs : List Sign} {i j : ℕ} {inner vs : Trees}
    → IsLeftOfTerm text us signs (Tree (codes "positive_predicate_operator") i j inner vs)
    → IsLeftOfTerm text us (signs ++ record { kind = sign_is.Positive; start = i } ∷ []) vs
term_positive {text} {us} {signs} {i} h =
    let g = positive_tree h.shape in
    record {
      shape = g.operand;
      flaws = h.flaws ∙ g.flaw;
      shorter = omega (arith, h.shorter);
      reads = λ x d. rw signed-push (h.reads _ (g.reads x d));
      stand = λ s. stand_push (record { kind = sign_is.Positive; start = i }) (h.stand s);
    }

pub term_negative : {text : List ℕ} {us : Trees} {signs : List Sign} {i j : ℕ} {inner vs : Trees}
    → IsLeftOfTerm text us signs (Tree (codes "negative_predicate_operator") i j inner vs)
    → IsLeftOfTerm text us (signs ++ record { kind = sign_is.Negative; start = i } ∷ []) vs
term_negative {text} {us} {signs} {i} h =
    let g = negative_tree h.shape in
    record {
      shape = g.operand;
      flaws = h.flaws ∙ g.flaw;
      shorter = omega (arith, h.shorter);
      reads = λ x d. rw signed-push (h.reads _ (g.reads x d));
      stand = λ s. stand_push (record { kind = sign_is.Negative; start = i }) (h.stand s);
    }

operand_tree : {text : List ℕ} {n : Text} {i j : ℕ} {inner us : Trees} (r : Rule)
    → IsTerm text (Tree n i j inner us) → n ≡ name_of r → ¬ (r ≡ rule_is.tag_id)
    → ¬ (r ≡ rule_is.positive_predicate_operator) → ¬ (r ≡ rule_is.negative_predicate_operator)
    → IsOperand text (Tree n i j inner us)
operand_tree r (tagged h) e a b c = absurd (a (name_of-injective r rule_is.tag_id (sym e)))
operand_tree r (predicate positive h) e a b c = absurd (b (name_of-injective r rule_is.positive_predicate_operator (sym e)))
operand_tree r (predicate negative h) e a b c = absurd (c (name_of-injective r rule_is.negative_predicate_operator (sym e)))
operand_tree r (grouped h k) e a b c = signs.group h k
operand_tree r (bare h k) e a b c = signs.node h k

-- no sign is left
pub term_operand : {text : List ℕ} {us : Trees} {ss : List Sign} {n : Text}
    {i j : ℕ} {inner vs : Trees} (r : Rule)
    → IsLeftOfTerm text us ss (Tree n i j inner vs) → n ≡ name_of r → ¬ (r ≡ rule_is.tag_id)
    → ¬ (r ≡ rule_is.positive_predicate_operator) → ¬ (r ≡ rule_is.negative_predicate_operator)
    → IsAfterSigns text us ss (Tree n i j inner vs)
term_operand r h e a b c = record {
  shape = operand_tree r h.shape e a b c;
  flaws = h.flaws;
  shorter = h.shorter;
  reads = h.reads;
  stand = h.stand;
}

-- from a sign to the end of what is read behind it
sign_place : {text : List ℕ} {us : Trees} (n : ParserNode) (i from to : ℕ) → NestedInBytes text us from to
    → Reads text ATerm us (view n) → IsCharBoundary text i × (i ≤ from)
    → IsPiece (span_text n.span) i (span_end n.span)
sign_place {text} n i from to h d a =
    let w = reads_within text d from to h in
    let e = same_text n from to d h in
    let p = piece_in n.span e in
    let b = rw (start_of-view n) at w.after in
    let q : IsPiece text i (span_end n.span) = record { starts = a.0; ends = p.ends; order = omega (arith, a.1, b, p.order) } in
    subst (λ u. IsPiece u i (span_end n.span)) (sym e) q

pub signs_place : {text : List ℕ} {signs : List Sign} {us : Trees} (n : ParserNode)
    → AreSignsIn text signs us → Reads text ATerm us (view n)
    → All (λ sign. IsPiece (span_text n.span) sign.start (span_end n.span)) signs
signs_place n s d = λ k t h. sign_place n _ s.from s.to s.nested d (s.before k t h)

-- the last sign is taken off
pub last_place : (n : ParserNode) (xs ys : List Sign) (sign : Sign) → xs ≡ ys ++ sign ∷ []
    → All (λ s. IsPiece (span_text n.span) s.start (span_end n.span)) xs
    → IsPiece (span_text n.span) sign.start (span_end n.span)
    × All (λ s. IsPiece (span_text n.span) s.start (span_end n.span)) ys
last_place n xs ys sign e h =
    let p = All-pop (λ s. IsPiece (span_text n.span) s.start (span_end n.span)) xs ys (Some sign) e h in
    (p.1, p.0)

-- and put round the node
pub last_sign : {text : List ℕ} (n x : ParserNode) (xs ys : List Sign) (sign : Sign) → xs ≡ ys ++ sign ∷ []
    → piece_of x.span ≡ piece text sign.start (span_end n.span)
    → view x ≡ One (piece_of x.span) (sign_of sign.kind) (view n)
    → signed text xs (view n) ≡ signed text ys (view x)
last_sign {text} n x xs ys sign e f g =
    let h = g ∙ ap (λ s. One s (sign_of sign.kind) (view n)) f in
    let k = ap (λ j. One (piece text sign.start j) (sign_of sign.kind) (view n)) (end_of-view n) in
    ap (λ ss. signed text ss (view n)) e ∙ signed-push text ys sign (view n)
    ∙ ap (λ y. signed text ys y) (k ∙ sym h)
