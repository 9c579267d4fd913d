-- The levels that are open while an expression is read.
use Rattle.std.proofs.Common.{◌≡◌, ◌+◌, ◌<◌, ◌≤◌, ℕ, List, [], ◌∷◌, ◌++◌, Option, Some, None, refl, sym, ap, ◌∙◌, subst, arith}
use Rattle.std.specs.Prelude.{codes, IfSome}
use Rattle.std.specs.Option.{option_or}
use Rattle.base_ast.specs.declared.deep.Deep.{Deep}
use Rattle.base_language.specs.Language.Text.{Text}
use Rattle.base_language.specs.Language.State.{Trees, Tree, joined}
use Rattle.front_nodes.specs.Nodes.{named_trees_of}
use Rattle.base_language.specs.Pieces.Saying.{piece}
use Rattle.front_spanned.specs.Nodes.{view, piece_of}
use Rattle.front_spanned.specs.Spanned.{Spanned, Seq, Choice, One, Push, end_of, starting, ending}
use Rattle.front_spanned.specs.declared.node.ParserNode.{ParserNode}
use Rattle.front_reader.specs.Flaws.{first_flaw, own_flaw}
use Rattle.front_reader.specs.Levels.{GoesOn, IsAlternativeRead, IsTermRead, IsOperandRead, IsInsideRead, IsLevelRead, node_view, together, IsReadAs, InFront, SplitOff, BeginsTerm, first_term, next_term, BeginsAlternative, first_alternative, next_alternative, IsAlternative, IsTermBeside, Opens, parentheses, push, IsInside, AreOpen, open_work, waits_of, work_of}
use Rattle.front_reader.specs.Pieces.{IsPiece, AreInText}
use Rattle.front_reader.specs.Reading as reading
use Rattle.front_reader.specs.Reading.{Reads, Postfixed, AnExpression, ASequence, ATerm, ANode}
use Rattle.base_language.specs.Pieces.Span.{span_text}
use Rattle.front_reader.specs.Signs.{IsOperand, group, node, signed}
use Rattle.front_reader.specs.declared.rules.signs.Sign.{Sign}
use Rattle.front_reader.specs.Views.{IsAfterBar, IsRest, IsFirst, IsNodeBefore, TakesTerm, takes_term, count_of}
use Rattle.front_reader.specs.declared.rules.flaws.ReadError.{ReadError}
use Rattle.front_reader.specs.declared.rules.levels.TermContext.{TermContext}
use Rattle.front_reader.specs.declared.rules.levels.Level.{Level}
use Rattle.front_reader.specs.declared.rules.levels.Next.{Next}
use Rattle.front_reader.specs.declared.rules.levels.Next.TheVariants as next_is
use Rattle.front_nodes.specs.declared.nodes.TokenNode.{TokenNode}
use Rattle.std.specs.Borrow.{Bor}
use Rattle.front_reader.specs.declared.rules.levels.Enclosure.{Enclosure}
use Rattle.front_reader.specs.declared.rules.levels.Enclosure.TheVariants as within_is
use Rattle.front_reader.proofs.Chains.{sequence_start, sequence_step, sequence_piece, expression_start, expression_step, expression_piece, stand_rest, chain_tree, same_text, rest_tree, quiet_bar, quiet_term}
use Rattle.front_reader.proofs.FlawsInOrder.{first_in, first_as, or_none}
use Rattle.front_reader.proofs.Terms.{inside, outermost, Outermost, before_operators, push_piece}
use Rattle.front_reader.proofs.TreesStandInText.{stand_inner, stand_behind, stand_alone}
use Rattle.front_grammar.specs.Shape.{Lone, IsExpression, IsNode, ArePostfixes, terminal, pushed}

-- where what is at hand stands

alternative_stands : {text : List ℕ} {us vs : Trees} {o : Option Spanned} → BeginsAlternative text us o vs
    → AreInText text us → AreInText text vs
alternative_stands (first_alternative b) s = b.nested s
alternative_stands {text} (next_alternative {bar_at = i} {bar_to = j} {vs = vs} h) s =
    stand_behind (stand_rest text h.whole h.front (Lone (codes "choice_operator") i j vs) h.split h.standing)

term_stands : {text : List ℕ} {us vs : Trees} {o : Option Spanned} → BeginsTerm text us o vs
    → AreInText text us → AreInText text vs
term_stands first_term s = s
term_stands {text} (next_term {tilde_at = i} {tilde_to = j} {us = us} {vs = vs} h) s =
    stand_behind (stand_rest text us h.front (Lone (codes "sequence_operator") i j vs) h.split s)

pub stand_alternative : {text : List ℕ} {us vs : Trees} {o : Option Spanned} → IsAlternative text us o vs
    → AreInText text vs
stand_alternative h = alternative_stands h.begins h.nested

pub stand_term : {text : List ℕ} {us term : Trees} {beside : TermContext} → IsTermBeside text us beside term
    → AreInText text term
stand_term h = stand_inner (term_stands h.begins (stand_alternative h.choice))

-- a term that is read, behind others

pub term_front : {text : List ℕ} {i j : ℕ} {us inner rest : Trees} {o : Option Spanned} {y : Spanned}
    → BeginsTerm text us o (Tree (codes "term") i j inner rest) → Reads text ATerm inner y
    → InFront text us rest (together text Seq o y)
term_front {text} first_term d = sequence_start text d
term_front {text} (next_term h) d = sequence_step text h d

pub term_piece : {text : List ℕ} {i j : ℕ} {us inner rest : Trees} (o : Option (Deep ParserNode)) (n : ParserNode)
    → BeginsTerm text us (node_view o) (Tree (codes "term") i j inner rest) → AreInText text us
    → Reads text ATerm inner (view n) → IfSome o (λ left. IsPiece text left.value.span.start n.span.end)
term_piece None n b s d = tt
term_piece {text} (Some m) n (next_term h) s d = sequence_piece text m.value n s h d

-- an alternative that is read, behind others

pub alternative_front : {text : List ℕ} {us vs front rest : Trees} {o : Option Spanned} {y : Spanned}
    → BeginsAlternative text us o vs → AreInText text us → vs ≡ joined front rest → Reads text ASequence front y
    → SplitOff text us rest (together text Choice o y)
alternative_front {text} (first_alternative b) s e d = expression_start text b s e d
alternative_front {text} (next_alternative h) s e d = expression_step text h e d

pub alternative_piece : {text : List ℕ} {us vs front : Trees} (rest : Trees) (o : Option (Deep ParserNode)) (n : ParserNode)
    → BeginsAlternative text us (node_view o) vs → vs ≡ joined front rest → Reads text ASequence front (view n)
    → IfSome o (λ left. IsPiece text left.value.span.start n.span.end)
alternative_piece rest None n b e d = tt
alternative_piece {text} rest (Some m) n (next_alternative h) e d = expression_piece text rest m.value n h e d

-- what is next

pub at_first_term : {text : List ℕ} {n : Text} {i j : ℕ} {us vs term : Trees} {beside : TermContext}
    → IsAlternative text us (node_view beside.choice) vs → beside.sequence ≡ None
    → vs ≡ Tree n i j term (named_trees_of beside.rest.now) → IsTermBeside text us beside term
at_first_term {text} {i = i} {j = j} {vs = vs} {beside = beside} h e f =
    let k = chain_tree (rw f at h.shape) in
    record {
      alternative = vs;
      from = i;
      to = j;
      choice = h;
      begins = rw (e, f, k.0) first_term;
      shape = k.1;
      others = k.2;
      flaws = rw (f, k.0, quiet_term) refl;
    }

pub at_next_term : {text : List ℕ} {us vs rest term : Trees} {beside : TermContext} (sequence : Deep ParserNode)
    → IsAlternative text us (node_view beside.choice) vs → beside.sequence ≡ Some sequence
    → InFront text vs rest (view sequence.value) → first_flaw text vs ≡ first_flaw text rest
    → TakesTerm text rest term (named_trees_of beside.rest.now) → IsTermBeside text us beside term
unfolding own_flaw
at_next_term {vs = vs} sequence c e h f (takes_term {term_at = k} {term_to = l} s m) = record {
  alternative = vs;
  from = k;
  to = l;
  choice = c;
  begins = rw e (next_term h);
  shape = s;
  others = m;
  flaws = f;
}

pub at_next_alternative : {text : List ℕ} {n : Text} {i j : ℕ} {us inner rest vs : Trees} {x : Spanned}
    → SplitOff text us rest x → IsRest text rest → rest ≡ Tree n i j inner vs → first_flaw text us ≡ first_flaw text rest
    → AreInText text us → IsAlternative text us (Some x) vs
at_next_alternative {text} {i = i} {j = j} h r e f s =
    let k = rest_tree (rw e at r) in
    record { shape = k.2; nested = s; flaws = f ∙ rw (e, k.0, k.1, quiet_bar) refl; begins = next_alternative (rw (e, k.0, k.1) at h) }

pub at_first_alternative : {text : List ℕ} {us vs : Trees} → IsAfterBar text us vs → AreInText text us
    → IsAlternative text us None vs
at_first_alternative b s = record { shape = b.shape; nested = s; flaws = b.flaws; begins = first_alternative b }

pub next_work : {text : List ℕ} {us inner after : Trees} → TakesTerm text us inner after
    → count_of after + count_of inner < count_of us
next_work (takes_term h k) = omega arith

-- what is read, a part at a time

pub alternative_read : {text : List ℕ} {us : Trees} {beside : TermContext} {n : ParserNode} (sequence : Deep ParserNode)
    → IsTermRead text us beside n
    → view sequence.value ≡ together text Seq (node_view beside.sequence) (view n)
    → IsRest text (named_trees_of beside.rest.now)
    → IsAlternativeRead text us beside.choice sequence (named_trees_of beside.rest.now)
alternative_read sequence h e r = record {
  alternative = h.stands.alternative;
  begins = h.stands.choice;
  front = rw e (term_front h.stands.begins h.reads.1);
  flaws = h.stands.flaws ∙ rw h.reads.0 refl;
  behind = r;
}

pub term_read : {text : List ℕ} {us : Trees} {beside : TermContext} {signs : List Sign} {operand : ParserNode} (n : ParserNode)
    → IsOperandRead text us beside signs operand
    → view n ≡ signed (span_text operand.span) signs (view operand) → IsTermRead text us beside n
term_read {text} {signs = signs} {operand = operand} n h e =
    let g = h.signed.stand (stand_term h.stands) in
    let k = same_text operand g.from g.to h.reads.1 g.nested in
    let q = e ∙ ap (λ u. signed u signs (view operand)) k in
    record {
      term = h.term;
      stands = h.stands;
      reads = (h.signed.flaws ∙ h.reads.0, subst (λ y. Reads text ATerm h.term y) (sym q) (h.signed.reads (view operand) h.reads.1));
    }

pub inside_read : {text : List ℕ} {us : Trees} {level : Level} {n : ParserNode} (h : IsLevelRead text us level n)
    → IsInsideRead text h.inside.operand level.within n (named_trees_of level.postfixes.now)
inside_read h =
    let g = h.inside.signed.stand (stand_term h.inside.stands) in
    record {
      inner = h.inner;
      opens = h.inside.opens;
      nested = record { from = g.from; to = g.to; nested = g.nested };
      reads = h.reads;
    }

pub operand_read : {text : List ℕ} {us : Trees} {level : Level} {n : ParserNode} (m : ParserNode) (h : IsLevelRead text us level n)
    → IsReadAs text ATerm h.inside.operand m → IsOperandRead text us level.beside level.signs.items m
operand_read m h d = record {
  term = h.inside.term;
  operand = h.inside.operand;
  stands = h.inside.stands;
  signed = h.inside.signed;
  reads = d;
}

-- operands that hold an expression

pub push_node : {text : List ℕ} {i j : ℕ} {inner us : Trees} → IsOperand text (Tree (codes "_push") i j inner us)
    → IsNode text (codes "_push") inner
push_node (node h k) = h

pub paren_opens : {text : List ℕ} {n o : Text} {i j k l m q : ℕ} {inner ws us : Trees}
    → IsOperand text (Lone (codes "opening_paren") i j (Tree n k l inner (Tree o m q ws us)))
    → Opens text (Lone (codes "opening_paren") i j (Tree n k l inner (Tree o m q ws us)))
    (within_is.Parentheses i q) inner us
paren_opens (group h k) = parentheses h k
paren_opens (node (terminal h) k) = elim h [ ]

pub push_opens : {text : List ℕ} {n o : Text} {i j k l m q : ℕ} {vs inner ws us : Trees}
    → IsOperand text (Tree (codes "_push") i j (Tree n k l vs (Tree o m q inner ws)) us)
    → Opens text (Tree (codes "_push") i j (Tree n k l vs (Tree o m q inner ws)) us) (within_is.Push i) inner us
push_opens (node (pushed h) k) = push h k
push_opens (node (terminal h) k) = elim h [ ]

pub record IsOpened (text : List ℕ) (us inner postfixes : Trees) : Type 0 where
  pub inside : IsExpression text inner
  pub behind : ArePostfixes text postfixes
  pub flaw : first_flaw text us ≡ option_or (first_flaw text inner) (first_flaw text postfixes)
  pub stand : AreInText text us → AreInText text inner
  pub smaller : count_of inner < count_of us

pub opened : {text : List ℕ} {us inner postfixes : Trees} {within : Enclosure}
    → Opens text us within inner postfixes → IsOpened text us inner postfixes
unfolding own_flaw
opened (parentheses h k) = record {
  inside = h;
  behind = k;
  flaw = refl;
  stand = λ s. stand_inner (stand_behind s);
  smaller = omega arith;
}
opened {text} {inner = inner} {postfixes = postfixes} (push h k) = record {
  inside = h;
  behind = k;
  flaw = ap (λ o. option_or o (first_flaw text postfixes)) (or_none (first_flaw text inner));
  stand = λ s. stand_inner (stand_behind (stand_inner s));
  smaller = omega arith;
}

-- an expression that is read in parentheses
pub record IsClosed (text : List ℕ) (us postfixes : Trees) (i j : ℕ) (n : ParserNode) : Type 0 where
  pub same_text : n.span.text.now ≡ text
  pub place : IsPiece text n.span.start j
  pub before : (x : ParserNode) → piece_of x.span ≡ piece text n.span.start j → IsNodeBefore text x postfixes
  pub reads : (y : Spanned) → Postfixed text (ending j (view n)) postfixes y → Reads text ATerm us (starting i y)
  pub outermost : (x : ParserNode) → Reads text ATerm us (starting i (view x)) → Outermost text i x

pub close : {text : List ℕ} {us inner postfixes : Trees} {i j : ℕ} (n : ParserNode)
    → Opens text us (within_is.Parentheses i j) inner postfixes → AreInText text us
    → Reads text AnExpression inner (view n) → IsClosed text us postfixes i j n
close n (parentheses h k) s d =
    let t = inside n s d in
    record {
      same_text = t.same_text;
      place = t.place;
      before = t.before;
      reads = λ y p. reading.grouped d p;
      outermost = λ x e. outermost x s e;
    }

-- and in `PUSH`
pub record IsPushed (text : List ℕ) (us postfixes : Trees) (i : ℕ) (n : ParserNode) : Type 0 where
  pub place : IsPiece text i n.span.end
  pub before : (x : ParserNode) → view x ≡ One (piece text i (end_of (view n))) Push (view n)
      → IsNodeBefore text x postfixes
  pub reads : (y : Spanned) → Postfixed text (One (piece text i (end_of (view n))) Push (view n)) postfixes y
      → Reads text ATerm us y

pub push_closed : {text : List ℕ} {us inner postfixes : Trees} {i : ℕ} (n : ParserNode)
    → Opens text us (within_is.Push i) inner postfixes → AreInText text us
    → Reads text AnExpression inner (view n) → IsPushed text us postfixes i n
push_closed n (push h k) s d =
    let t = stand_inner (stand_behind (stand_inner s)) in
    record {
      place = push_piece n (stand_alone s) t d (reading.pushed d);
      before = λ x e. before_operators x s (rw e (reading.pushed d));
      reads = λ y p. reading.bare (reading.pushed d) p;
    }

-- the first flaw of an expression, by that of one of its terms, and of the expression in a term

pub term_first : {text : List ℕ} {us term : Trees} {beside : TermContext} (e : ReadError) → IsTermBeside text us beside term
    → IsFirst (first_flaw text term) e → IsFirst (first_flaw text us) e
term_first {text} {beside = beside} e h k =
    first_as _ _ e (h.choice.flaws ∙ h.flaws) (first_in _ (first_flaw text (named_trees_of beside.rest.now)) e k)

inside_first : {text : List ℕ} {us inner : Trees} {level : Level} (e : ReadError) → IsInside text us level inner
    → IsFirst (first_flaw text inner) e → IsFirst (first_flaw text us) e
inside_first {text} {level = level} e h k =
    let o = opened h.opens in
    term_first e h.stands (first_as _ _ e (h.signed.flaws ∙ o.flaw) (first_in _ (first_flaw text (named_trees_of level.postfixes.now)) e k))

pub stand_inside : {text : List ℕ} {us inner : Trees} {level : Level} → IsInside text us level inner
    → AreInText text inner
stand_inside h =
    let g = h.signed.stand (stand_term h.stands) in
    let o = opened h.opens in
    o.stand (record { from = g.from; to = g.to; nested = g.nested })

-- reading the whole expression goes on with what is next
pub record IsOnTheWay (text : List ℕ) (levels : List Level) (next : Next) (whole : Trees) : Type 0 where
  pub us : Trees
  pub opens : AreOpen text levels us whole
  pub goes_on : GoesOn text us next

module _ (text : List ℕ) where
  pub open_first : (levels : List Level) (us whole : Trees) (e : ReadError) → AreOpen text levels us whole
      → IsFirst (first_flaw text us) e → IsFirst (first_flaw text whole) e
  open_first [] us whole e h k = first_as _ _ e (ap (first_flaw text) (sym h)) k
  open_first (level ∷ others) us whole e h k = inside_first e h.1 (open_first others us h.0 e h.2 k)

  -- one more level, and one less

  pub open_more : (levels : List Level) (level : Level) (us inner whole : Trees) → AreOpen text levels us whole
      → IsInside text us level inner → AreOpen text (levels ++ (level ∷ [])) inner whole
  open_more [] level us inner whole h k = (inner, subst (λ vs. IsInside text vs level inner) h k, refl)
  open_more (other ∷ others) level us inner whole h k = (h.0, h.1, open_more others level us inner h.0 h.2 k)

  pub record LastOpen (levels : List Level) (level : Level) (inner whole : Trees) : Type 0 where
    pub us : Trees
    pub open_before : AreOpen text levels us whole
    pub stands : IsInside text us level inner

  pub open_last : (levels : List Level) (level : Level) (inner whole : Trees)
      → AreOpen text (levels ++ (level ∷ [])) inner whole → LastOpen levels level inner whole
  open_last [] level inner whole h = record {
    us = whole;
    open_before = refl;
    stands = subst (λ vs. IsInside text whole level vs) (sym h.2) h.1;
  }
  open_last (other ∷ others) level inner whole h =
      let k = open_last others level inner h.0 h.2 in
      record { us = k.us; open_before = (h.0, h.1, k.open_before); stands = k.stands }

pub work_more : (levels : List Level) (level : Level)
    → open_work (levels ++ (level ∷ [])) ≡ waits_of level.beside + open_work levels
work_more [] level = refl
work_more (other ∷ others) level = omega (arith, work_more others level)

-- less is to be done: where an expression is begun, and where one is read

pub less_inside : (levels others : List Level) (next after : Next) (level : Level) (trees : Bor (List TokenNode))
    (us : Trees) → next ≡ next_is.Inner level trees → others ≡ levels ++ (level ∷ []) → work_of after < count_of us
    → count_of us ≤ count_of (named_trees_of trees.now)
    → work_of after + open_work others < work_of next + open_work levels
less_inside levels others next after level trees us e f h k = rw (e, f, work_more levels level) (omega (arith, h, k))

pub less_outside : (levels others : List Level) (next after : Next) (level : Level) (n : ParserNode)
    → next ≡ next_is.Done n → levels ≡ others ++ (level ∷ []) → work_of after < waits_of level.beside
    → work_of after + open_work others < work_of next + open_work levels
less_outside levels others next after level n e f h = rw (e, f, work_more others level) (omega (arith, h))
