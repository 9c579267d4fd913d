-- What is said of a printed part: which calls succeed on it, that their trees have no flaw, and what these are read as.
-- Throughout, p and q are places in bytes, t is what is left of the text at p, K₀ is what stands behind the part, and K is the same
-- behind the blank that may stand there. A part doesn't say where its call ended, since a call may take that blank or leave it: it says
-- that skipping leads on to K.
use Rattle.std.proofs.Common.{◌≡◌, refl, ap, subst, ℕ, List, ◌∷◌, true, false, codes, None}
use Rattle.std.specs.Str.{chars}
use Rattle.base_language.specs.Language.Text.{Text}
use Rattle.base_language.specs.Language.Expression as bare
use Rattle.base_language.specs.Language.Expression.{Expression, Ident, Rep, Seq, Choice}
use Rattle.base_language.specs.Language.State.{State, NonAtomicMode, Trees, None', Tree, Success, joined}
use Rattle.base_language.specs.Language.Meaning.{Task, Run, Turns, Skipping}
use Rattle.base_language.specs.Language.Places.{IsStateIn}
use Rattle.base_language.specs.declared.grammar.Rule.TheVariants as is
use Rattle.base_language.proofs.Steps.{joined_assoc, joined_nil}
use Rattle.base_language.proofs.TreesAreNested.{fits}
use Rattle.front_grammar.specs.MetaGrammar.{rule, ◌~◌}
use Rattle.front_grammar.proofs.FirstCharacters.{may_begin}
use Rattle.front_spanned.specs.Spanned as spanned
use Rattle.front_spanned.specs.Spanned.{Spanned, Leaf, One, Two, Span, Unary, starting, ending, placed}
use Rattle.front_reader.specs.Reading.{Category, AnExpression, Alternatives, ASequence, ATerm, Reads, Postfixed}
use Rattle.front_reader.specs.Flaws.{first_flaw, own_flaw}
use Rattle.front_spanned.specs.Erasure.{without_spans, round}
use Rattle.pest_meta.specs.Nesting.{nested_right}
use Rattle.pest_meta.proofs.Deriving.{at, is_solid, Gives, Calls, Skips}

-- the signs that join terms
pub data Link : Type 0 where
  Tilde : Link
  Bar : Link

abbrev pub sign : Link → ℕ
sign Tilde = 126
sign Bar = 124

abbrev pub joined_by : Link → Expression → Expression → Expression
joined_by Tilde a b = Seq a b
joined_by Bar a b = Choice a b

abbrev pub category : Link → Category
category Tilde = ASequence
category Bar = Alternatives

-- a sign and a term
abbrev pub linked : Expression
linked = rule is.infix_operator ~ rule is.term

-- what may stand behind a term, and what of it is left behind a blank
pub data MayFollowTerm : Text → Text → Type 0 where
  tilde : (K : Text) → MayFollowTerm (32 ∷ 126 ∷ 32 ∷ K) (126 ∷ 32 ∷ K)
  bar : (K : Text) → MayFollowTerm (32 ∷ 124 ∷ 32 ∷ K) (124 ∷ 32 ∷ K)
  brace : (K : Text) → MayFollowTerm (32 ∷ 125 ∷ K) (125 ∷ K)
  paren : (K : Text) → MayFollowTerm (41 ∷ K) (41 ∷ K)

-- what may stand behind an expression
pub data MayFollowExpression : Text → Text → Type 0 where
  by_brace : (K : Text) → MayFollowExpression (32 ∷ 125 ∷ K) (125 ∷ K)
  by_paren : (K : Text) → MayFollowExpression (41 ∷ K) (41 ∷ K)

pub behind : {K₀ K : Text} → MayFollowExpression K₀ K → MayFollowTerm K₀ K
behind (by_brace K) = brace K
behind (by_paren K) = paren K

-- what may stand behind a node: a postfix operator, or what may stand behind a term
pub data MayFollowNode : Text → Type 0 where
  an_operator : (c : ℕ) (K : Text) → may_begin is.postfix_operator c ≡ true → MayFollowNode (c ∷ K)
  no_operator : {K₀ K : Text} → MayFollowTerm K₀ K → MayFollowNode K₀

-- how a term begins, and a node
pub data TermStart : Text → Type 0 where
  term_start : (c : ℕ) (K : Text) → is_solid c ≡ true → may_begin is.node_tag c ≡ false → may_begin is.choice_operator c ≡ false → TermStart (c ∷ K)

pub data NodeStart : Text → Type 0 where
  node_start : (c : ℕ) (K : Text) → is_solid c ≡ true → may_begin is.node_tag c ≡ false → may_begin is.choice_operator c ≡ false → may_begin is.prefix_operator c ≡ false → NodeStart (c ∷ K)

pub term_begins : {t : Text} → NodeStart t → TermStart t
term_begins (node_start c K h i j k) = term_start c K h i j

-- how an expression begins, which may begin with a tag
pub data ExpressionStart : Text → Type 0 where
  expression_start : (c : ℕ) (K : Text) → is_solid c ≡ true → ExpressionStart (c ∷ K)

pub expression_begins : {t : Text} → TermStart t → ExpressionStart t
expression_begins (term_start c K h i j) = expression_start c K h

-- a node says an expression, up to how sequences and choices are nested_right
pub record Denotes (x : Spanned) (e : Expression) : Type 0 where
  pub same : nested_right (without_spans x) ≡ nested_right e

one_same : (f : Unary) (a b : Expression) → nested_right a ≡ nested_right b → nested_right (round f a) ≡ nested_right (round f b)
one_same spanned.PosPred a b h = ap bare.PosPred h
one_same spanned.NegPred a b h = ap bare.NegPred h
one_same spanned.Opt a b h = ap bare.Opt h
one_same spanned.Rep a b h = ap bare.Rep h
one_same spanned.RepOnce a b h = ap bare.RepOnce h
one_same (spanned.RepExact i) a b h = ap (λ x. bare.RepExact x i) h
one_same (spanned.RepMin i) a b h = ap (λ x. bare.RepMin x i) h
one_same (spanned.RepMax i) a b h = ap (λ x. bare.RepMax x i) h
one_same (spanned.RepMinMax i j) a b h = ap (λ x. bare.RepMinMax x i j) h
one_same spanned.Push a b h = ap bare.Push h
one_same (spanned.Tag t) a b h = ap (λ x. bare.NodeTag x t) h

pub one_says : {x : Spanned} {e : Expression} (s : Span) (f : Unary) → Denotes x e → Denotes (One s f x) (round f e)
one_says s f h = record { same = one_same f _ _ h.same }

pub starting_says : {x : Spanned} {e : Expression} (i : ℕ) → Denotes x e → Denotes (starting i x) e
starting_says {x = Leaf s e} i h = record { same = h.same }
starting_says {x = One s f x} i h = record { same = h.same }
starting_says {x = Two s f x y} i h = record { same = h.same }

pub ending_says : {x : Spanned} {e : Expression} (i : ℕ) → Denotes x e → Denotes (ending i x) e
ending_says {x = Leaf s e} i h = record { same = h.same }
ending_says {x = One s f x} i h = record { same = h.same }
ending_says {x = Two s f x y} i h = record { same = h.same }

module _ (text : List ℕ) where
  -- the text is left from the position on
  abbrev pub IsLeftAt : ℕ → Text → Type 0
  IsLeftAt p t = IsStateIn (chars text) (at p t)

  -- trees without a flaw before others without one
  pub record IsFlawless (us : Trees) : Type 0 where
    pub keeps : (vs : Trees) → first_flaw text vs ≡ None → first_flaw text (joined us vs) ≡ None

  pub flawless_none : IsFlawless None'
  flawless_none = record { keeps = λ vs h. h }

  pub flawless_both : {us vs : Trees} → IsFlawless us → IsFlawless vs → IsFlawless (joined us vs)
  flawless_both {us} {vs} h k = record { keeps = λ ws i. rw (joined_assoc us vs ws) (h.keeps (joined vs ws) (k.keeps ws i)) }

  pub no_flaw : {us : Trees} → IsFlawless us → first_flaw text us ≡ None
  no_flaw {us} h = subst (λ x. first_flaw text x ≡ None) (joined_nil us) (h.keeps None' refl)

  pub flawless_tree : {r : Text} {i j : ℕ} {inner us : Trees} → ((vs : Trees) → own_flaw text r i j inner (joined us vs) ≡ None) → IsFlawless inner → IsFlawless us → IsFlawless (Tree r i j inner us)
  flawless_tree {r} {i} {j} {inner} {us} h k l = record { keeps = λ vs m. rw (h vs, no_flaw k) (l.keeps vs m) }

  pub still_left : {k : Task} {s : State} {q : ℕ} {K : Text} {us : Trees} → Gives k s (Success (at q K) us) → IsStateIn (chars text) s → IsLeftAt q K
  still_left d h = (fits (chars text) (d (λ n c. false)) h).0

  -- postfix operators make b of a, up to K
  pub record PostfixOperators (k : Task) (s : State) (a b : Expression) (K : Text) : Type 0 where
    pub end : State
    pub trees : Trees
    pub does : Gives k s (Success end trees)
    pub place : ℕ
    pub after : Skips end place K
    pub reads : (x : Spanned) → Denotes x a → (y : Spanned) × Postfixed text x trees y × Denotes y b
    pub flawless : IsFlawless trees

  abbrev pub postfixes : Expression
  postfixes = rule is.postfix_operator

  pub record OperatorsAt (p : ℕ) (t : Text) (a b : Expression) (K : Text) : Type 0 where
    pub begin : State
    pub skip : Gives (Skipping NonAtomicMode) (at p t) (Success begin None')
    pub from_start : PostfixOperators (Run NonAtomicMode (Rep postfixes)) begin a b K
    pub going_on : PostfixOperators (Turns NonAtomicMode postfixes) (at p t) a b K

  -- a node with its postfix operators
  pub record NodeAt (p : ℕ) (t : Text) (b : Expression) (K : Text) : Type 0 where
    pub starts : NodeStart t
    pub node_end : State
    pub node_trees : Trees
    pub node : Calls is.node (at p t) (Success node_end node_trees)
    pub begin : State
    pub skip : Gives (Skipping NonAtomicMode) node_end (Success begin None')
    pub end : State
    pub trees : Trees
    pub loop : Gives (Run NonAtomicMode (Rep postfixes)) begin (Success end trees)
    pub place : ℕ
    pub after : Skips end place K
    pub said : Spanned
    pub reads : Reads text ATerm (joined node_trees trees) said
    pub says : Denotes said b
    pub flawless : IsFlawless (joined node_trees trees)

  -- a term: predicates before a node
  pub record TermAt (p : ℕ) (t : Text) (e : Expression) (K : Text) : Type 0 where
    pub starts : TermStart t
    pub node_place : ℕ
    pub node_text : Text
    pub signs : Trees
    pub from_start : Gives (Run NonAtomicMode (Rep (rule is.prefix_operator))) (at p t) (Success (at node_place node_text) signs)
    pub going_on : Gives (Turns NonAtomicMode (rule is.prefix_operator)) (at p t) (Success (at node_place node_text) signs)
    pub solid : Skips (at node_place node_text) node_place node_text
    pub node_end : State
    pub node_trees : Trees
    pub node : Calls is.node (at node_place node_text) (Success node_end node_trees)
    pub begin : State
    pub skip : Gives (Skipping NonAtomicMode) node_end (Success begin None')
    pub end : State
    pub trees : Trees
    pub loop : Gives (Run NonAtomicMode (Rep postfixes)) begin (Success end trees)
    pub place : ℕ
    pub after : Skips end place K
    pub said : Spanned
    pub reads : Reads text ATerm (joined (joined signs node_trees) trees) said
    pub says : Denotes said e
    pub flawless : IsFlawless (joined (joined signs node_trees) trees)

  -- the same as a call of `term`
  pub record TermCall (p : ℕ) (t : Text) (e : Expression) (K : Text) : Type 0 where
    pub starts : TermStart t
    pub end : State
    pub inner : Trees
    pub does : Calls is.term (at p t) (Success end (Tree (codes "term") p end.position inner None'))
    pub place : ℕ
    pub after : Skips end place K
    pub said : Spanned
    pub reads : Reads text ATerm inner said
    pub says : Denotes said e
    pub flawless : IsFlawless (Tree (codes "term") p end.position inner None')

  -- signs and terms behind a term
  pub record ChainAt (l : Link) (p : ℕ) (t : Text) (e : Expression) (K : Text) : Type 0 where
    pub middle : State
    pub first_trees : Trees
    pub first : Gives (Run NonAtomicMode linked) (at p t) (Success middle first_trees)
    pub end : State
    pub trees : Trees
    pub others : Gives (Turns NonAtomicMode linked) middle (Success end trees)
    pub place : ℕ
    pub after : Skips end place K
    pub reads : (a : Expression) (us : Trees) (x : Spanned) → Reads text (category l) us x → Denotes x a → (y : Spanned) × Reads text (category l) (joined us (joined first_trees trees)) y × Denotes y (joined_by l a e)
    pub flawless : IsFlawless (joined first_trees trees)

  -- a call of `expression`
  pub record ExpressionAt (p : ℕ) (t : Text) (e : Expression) (K : Text) : Type 0 where
    pub starts : ExpressionStart t
    pub end : State
    pub inner : Trees
    pub does : Calls is.expression (at p t) (Success end (Tree (codes "expression") p end.position inner None'))
    pub place : ℕ
    pub after : Skips end place K
    pub said : Spanned
    pub reads : Reads text AnExpression inner said
    pub says : Denotes said e
    pub flawless : IsFlawless (Tree (codes "expression") p end.position inner None')

  -- what holds of an expression's text, whatever stands behind it
  abbrev pub IsNodeText : (Text → Text) → Expression → Type 0
  IsNodeText F e = (p : ℕ) (b : Expression) (K₀ K : Text) → IsLeftAt p (F K₀) → MayFollowNode K₀ → ((q : ℕ) → IsLeftAt q K₀ → OperatorsAt q K₀ e b K) → NodeAt p (F K₀) b K

  abbrev pub IsTermText : (Text → Text) → Expression → Type 0
  IsTermText F e = (p : ℕ) (K₀ K : Text) → IsLeftAt p (F K₀) → MayFollowTerm K₀ K → TermAt p (F K₀) e K

  abbrev pub AreTermsText : Link → (Text → Text) → Expression → Type 0
  AreTermsText l F e = (p : ℕ) (K₀ K : Text) → IsLeftAt p (sign l ∷ 32 ∷ F K₀) → MayFollowExpression K₀ K → ChainAt l p (sign l ∷ 32 ∷ F K₀) e K

  abbrev pub IsExpressionText : (Text → Text) → Expression → Type 0
  IsExpressionText F e = (p : ℕ) (K₀ K : Text) → IsLeftAt p (F K₀) → MayFollowExpression K₀ K → ExpressionAt p (F K₀) e K
