-- The expressions that are open in the reader, and how many trees are still to be read.
use Rattle.std.specs.Prelude.{◌≡◌, ◌+◌, ℕ, List, [], ◌∷◌, Option, Some, None, codes, option_map}
use Rattle.std.specs.Option.{option_or}
use Rattle.base_ast.specs.declared.deep.Deep.{Deep}
use Rattle.base_language.specs.Language.State.{Trees, None', Tree, joined}
use Rattle.base_language.specs.Pieces.MetaRules.{name_of}
use Rattle.front_nodes.specs.Nodes.{named_trees_of}
use Rattle.front_nodes.specs.declared.nodes.FirstTree.{FirstTree}
use Rattle.front_spanned.specs.Nodes.{view}
use Rattle.front_spanned.specs.Spanned.{Spanned, Binary}
use Rattle.front_spanned.specs.declared.node.ParserNode.{ParserNode}
use Rattle.front_reader.specs.Flaws.{first_flaw}
use Rattle.front_reader.specs.Pieces.{AreInText}
use Rattle.front_reader.specs.Reading.{Category, AnExpression, Alternatives, ASequence, ATerm, Reads, both}
use Rattle.front_reader.specs.Signs.{IsAfterSigns}
use Rattle.front_reader.specs.Views.{IsAfterBar, IsRest, count_of}
use Rattle.front_reader.specs.declared.rules.levels.TermContext.{TermContext}
use Rattle.front_reader.specs.declared.rules.levels.Level.{Level}
use Rattle.front_reader.specs.declared.rules.levels.Next.{Next}
use Rattle.front_reader.specs.declared.rules.levels.Next.TheVariants as next_is
use Rattle.front_reader.specs.declared.rules.levels.Enclosure.{Enclosure}
use Rattle.front_reader.specs.declared.rules.levels.Enclosure.TheVariants as within_is
use Rattle.front_reader.specs.declared.rules.signs.Sign.{Sign}
use Rattle.front_grammar.specs.Shape.{Lone, IsExpression, AreTerms, IsMore, IsTerm, IsTerminal, ArePostfixes}

-- a node of code, if there is one
abbrev pub node_view : Option (Deep ParserNode) → Option Spanned
node_view o = option_map (λ n. view n.value) o

-- a node and the one before it, with an operator between them
abbrev pub together : List ℕ → Binary → Option Spanned → Spanned → Spanned
together text f None y = y
together text f (Some x) y = both text f x y

-- the trees are read as the node, and have no flaw
abbrev pub IsReadAs : List ℕ → Category → Trees → ParserNode → Type 0
IsReadAs text category us n = (first_flaw text us ≡ None) × Reads text category us (view n)

-- a prefix of the trees is read as a sequence, and the rest follows
pub record InFront (text : List ℕ) (us rest : Trees) (x : Spanned) : Type 0 where
  pub front : Trees
  pub split : us ≡ joined front rest
  pub reads : Reads text ASequence front x

-- a prefix of an expression's trees is read as alternatives, and the rest follows
pub record SplitOff (text : List ℕ) (us rest : Trees) (x : Spanned) : Type 0 where
  pub front : Trees
  pub whole : Trees
  pub split : whole ≡ joined front rest
  pub reads : Reads text Alternatives front x
  pub behind : (y : Spanned) → Reads text Alternatives whole y → Reads text AnExpression us y
  pub standing : AreInText text whole

-- a term begins with these trees: the first of a sequence, or the next after others and a tilde
pub data BeginsTerm (text : List ℕ) : Trees → Option Spanned → Trees → Type 0 where
  first_term : {us : Trees} → BeginsTerm text us None us
  next_term : {tilde_at tilde_to : ℕ} {us vs : Trees} {x : Spanned}
      → InFront text us (Lone (codes "sequence_operator") tilde_at tilde_to vs) x
      → BeginsTerm text us (Some x) vs

-- an alternative begins with these trees: the first of an expression, or the next after others and a bar
pub data BeginsAlternative (text : List ℕ) (us : Trees) : Option Spanned → Trees → Type 0 where
  first_alternative : {vs : Trees} → IsAfterBar text us vs → BeginsAlternative text us None vs
  next_alternative : {bar_at bar_to : ℕ} {vs : Trees} {x : Spanned}
      → SplitOff text us (Lone (codes "choice_operator") bar_at bar_to vs) x
      → BeginsAlternative text us (Some x) vs

-- an alternative of the expression `us` with all after it; `choice` is the node of those before it
pub record IsAlternative (text : List ℕ) (us : Trees) (choice : Option Spanned) (vs : Trees) : Type 0 where
  pub shape : AreTerms text vs
  pub nested : AreInText text us
  pub flaws : first_flaw text us ≡ first_flaw text vs
  pub begins : BeginsAlternative text us choice vs

-- a term of the expression `us`, with its surroundings
pub record IsTermBeside (text : List ℕ) (us : Trees) (beside : TermContext) (term : Trees) : Type 0 where
  pub alternative : Trees
  pub from : ℕ
  pub to : ℕ
  pub choice : IsAlternative text us (node_view beside.choice) alternative
  pub begins : BeginsTerm text alternative (node_view beside.sequence)
      (Tree (codes "term") from to term (named_trees_of beside.rest.now))
  pub shape : IsTerm text term
  pub others : IsMore text (named_trees_of beside.rest.now)
  pub flaws : first_flaw text alternative
      ≡ option_or (first_flaw text term) (first_flaw text (named_trees_of beside.rest.now))

-- an operand's trees: its wrapper round an expression, the expression's trees and the postfix operators
pub data Opens (text : List ℕ) : Trees → Enclosure → Trees → Trees → Type 0 where
  parentheses : {open_at open_to body_at body_to close_at close_to : ℕ} {inner us : Trees}
      → IsExpression text inner → ArePostfixes text us
      → Opens text
      (Lone (codes "opening_paren") open_at open_to
      (Tree (codes "expression") body_at body_to inner
      (Lone (codes "closing_paren") close_at close_to us)))
      (within_is.Parentheses open_at close_to) inner us
  push : {from to open_at open_to body_at body_to close_at close_to : ℕ} {inner us : Trees}
      → IsExpression text inner → ArePostfixes text us
      → Opens text
      (Tree (codes "_push") from to
      (Lone (codes "opening_paren") open_at open_to
      (Tree (codes "expression") body_at body_to inner
      (Lone (codes "closing_paren") close_at close_to None')))
      us)
      (within_is.Push from) inner us

-- an operand that begins with a tree of the code: a node that holds no expression, and postfix operators
abbrev pub HoldsNoExpression : List ℕ → FirstTree → Type 0
HoldsNoExpression text tree =
    IsTerminal text (name_of tree.rule) (named_trees_of tree.inner.now)
    × ArePostfixes text (named_trees_of tree.others.now)

-- the trees `inner` are the expression in a term of the expression `us`
pub record IsInside (text : List ℕ) (us : Trees) (level : Level) (inner : Trees) : Type 0 where
  pub term : Trees
  pub operand : Trees
  pub stands : IsTermBeside text us level.beside term
  pub signed : IsAfterSigns text term level.signs.items operand
  pub opens : Opens text operand level.within inner (named_trees_of level.postfixes.now)

-- the next step in reading the expression `us` is a term of it, or an expression in one, or it is read
abbrev pub GoesOn : List ℕ → Trees → Next → Type 0
GoesOn text us (next_is.Term beside trees) = IsTermBeside text us beside (named_trees_of trees.now)
GoesOn text us (next_is.Inner level trees) = IsInside text us level (named_trees_of trees.now)
GoesOn text us (next_is.Done n) = IsReadAs text AnExpression us n

-- the trees `us` are the expression in the last level; every level is in the expression of the one before
-- it, and the first level is in the expression `whole`
abbrev pub AreOpen : List ℕ → List Level → Trees → Trees → Type 0
AreOpen text [] us whole = us ≡ whole
AreOpen text (level ∷ others) us whole =
    (inner : Trees) × IsInside text whole level inner × AreOpen text others us inner

-- an alternative, a term, an operand, the expression in an operand, and that in a level, once they are
-- read
pub record IsAlternativeRead (text : List ℕ) (us : Trees) (choice : Option (Deep ParserNode))
    (sequence : Deep ParserNode) (rest : Trees) : Type 0 where
  pub alternative : Trees
  pub begins : IsAlternative text us (node_view choice) alternative
  pub front : InFront text alternative rest (view sequence.value)
  pub flaws : first_flaw text alternative ≡ first_flaw text rest
  pub behind : IsRest text rest

pub record IsTermRead (text : List ℕ) (us : Trees) (beside : TermContext) (node : ParserNode) : Type 0 where
  pub term : Trees
  pub stands : IsTermBeside text us beside term
  pub reads : IsReadAs text ATerm term node

pub record IsOperandRead (text : List ℕ) (us : Trees) (beside : TermContext) (signs : List Sign)
    (node : ParserNode) : Type 0 where
  pub term : Trees
  pub operand : Trees
  pub stands : IsTermBeside text us beside term
  pub signed : IsAfterSigns text term signs operand
  pub reads : IsReadAs text ATerm operand node

pub record IsInsideRead (text : List ℕ) (us : Trees) (within : Enclosure) (node : ParserNode)
    (postfixes : Trees) : Type 0 where
  pub inner : Trees
  pub opens : Opens text us within inner postfixes
  pub nested : AreInText text us
  pub reads : IsReadAs text AnExpression inner node

pub record IsLevelRead (text : List ℕ) (us : Trees) (level : Level) (node : ParserNode) : Type 0 where
  pub inner : Trees
  pub inside : IsInside text us level inner
  pub reads : IsReadAs text AnExpression inner node

-- the number of trees still to be read: after a term, in the next step, and after all levels
abbrev pub waits_of : TermContext → ℕ
waits_of beside = count_of (named_trees_of beside.rest.now)

abbrev pub work_of : Next → ℕ
work_of (next_is.Term beside trees) = waits_of beside + count_of (named_trees_of trees.now)
work_of (next_is.Inner level trees) = waits_of level.beside + count_of (named_trees_of trees.now)
work_of (next_is.Done n) = 0

abbrev pub open_work : List Level → ℕ
open_work [] = 0
open_work (level ∷ others) = waits_of level.beside + open_work others
