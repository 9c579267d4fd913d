-- Views of the code's values, and relations between its arguments and its answers.
use Rattle.std.specs.Prelude.{◌≡◌, ◌≤◌, ◌+◌, ◌⊎◌, ℕ, List, [], ◌∷◌, true, false, Option, Some, None, chars, Result, Ok, Err, MatchOption, MatchResult, ℤ, codes, option_map, string_bytes, Vec}
use Rattle.std.specs.Borrow.{Bor}
use Rattle.std.specs.declared.alloc.Global.{Global}
use Rattle.std.specs.declared.string.String.{String}
use Rattle.std.specs.Str.{all_scalars}
use Rattle.base_language.specs.Language.Expression as meaning
use Rattle.base_language.specs.Language.State as state
use Rattle.base_language.specs.Language.Text.{Text}
use Rattle.base_language.specs.Language.State.{joined}
use Rattle.base_language.specs.Pieces.Span.{span_text, span_end}
use Rattle.front_spanned.specs.Spanned as spanned
use Rattle.front_reader.specs.Pieces.{AreAfter, AreInText}
use Rattle.front_grammar.specs.Shape.{Lone, AreTerms, IsMore, IsTerm, IsModifier}
use Rattle.front_spanned.specs.Spanned.{Spanned, Binary, Seq, Choice, One, Unary, Opt, Rep, RepOnce, RepExact, RepMin, RepMax, RepMinMax}
use Rattle.front_spanned.specs.Nodes.{piece_of, view, rule_view, rule_views}
use Rattle.front_nodes.specs.Nodes.{named_trees_of}
use Rattle.front_reader.specs.Reading.{Modifies, Category, AnExpression, Alternatives, Reads, ReadsRule, ReadsRules, Postfix, Postfixed, integer, literal_value}
use Rattle.front_reader.specs.Literal.{unescaped}
use Rattle.front_reader.specs.Flaws as flaws
use Rattle.front_reader.specs.Flaws.{first_flaw, wrong_literal}
use Rattle.front_nodes.specs.declared.nodes.TokenNode.{TokenNode}
use Rattle.front_nodes.specs.declared.nodes.FirstTree.{FirstTree}
use Rattle.base_language.specs.declared.runtime.places.Span.{Span}
use Rattle.base_language.specs.Pieces.MetaRules.{name_of}
use Rattle.front_spanned.specs.declared.node.ParserNode.{ParserNode}
use Rattle.front_spanned.specs.declared.node.ParserRule.{ParserRule}
use Rattle.front_reader.specs.declared.rules.flaws.Cause as code_cause
use Rattle.front_reader.specs.declared.rules.flaws.Cause.TheVariants as cause_is
use Rattle.front_reader.specs.declared.rules.flaws.Flaw.{Flaw}
use Rattle.front_reader.specs.declared.rules.flaws.ReadError as error
use Rattle.front_reader.specs.declared.rules.flaws.ReadError.TheVariants as error_is
use Rattle.front_reader.specs.declared.rules.operators.Times as code_times
use Rattle.front_reader.specs.declared.rules.reading.Infix as code_infix
use Rattle.front_reader.specs.declared.rules.reading.Infix.TheVariants as infix_is
use Rattle.front_reader.specs.declared.rules.operators.Times.TheVariants as times_is

abbrev pub cause_of : code_cause.Cause → flaws.Cause
cause_of cause_is.NoScalarValue = flaws.NoScalarValue
cause_of cause_is.PastI32 = flaws.PastI32
cause_of cause_is.PastU32 = flaws.PastU32
cause_of cause_is.ZeroTimes = flaws.ZeroTimes

abbrev pub flaw_of : Flaw → flaws.Flaw
flaw_of f = record { cause = cause_of f.cause; span = piece_of f.span }

-- an error says that memory was refused, or is the first flaw
abbrev pub IsFirst : Option flaws.Flaw → error.ReadError → Type 0
IsFirst o (error_is.Memory e) = Unit {0}
IsFirst o (error_is.Found f) = o ≡ Some (flaw_of f)

-- an answer is right where there is no flaw; a refusal is right where the flaw is the first
abbrev pub Answers : {X : Type 0} → Option flaws.Flaw → Result X error.ReadError → (X → Type 0) → Type 0
Answers o (Ok x) P = (o ≡ None) × P x
Answers o (Err e) P = IsFirst o e

-- a tree of the code by itself, and as one of another rule
abbrev pub alone_as : Text → FirstTree → state.Trees
alone_as rule tree = state.Tree rule tree.start tree.end (named_trees_of tree.inner.now) state.None'

abbrev pub alone : FirstTree → state.Trees
alone tree = alone_as (name_of tree.rule) tree

-- a tree of the code, and those after it
abbrev pub all_from : FirstTree → state.Trees
all_from tree =
    state.Tree (name_of tree.rule) tree.start tree.end (named_trees_of tree.inner.now)
    (named_trees_of tree.others.now)

-- the node that the trees of a category are read as, or their first flaw
abbrev pub ReadsAs : List ℕ → Category → state.Trees → Result ParserNode error.ReadError → Type 0
ReadsAs text category us result = Answers (first_flaw text us) result (λ n. Reads text category us (view n))

-- the rule that trees are read as, and all rules of a text, or their first flaw
abbrev pub AnswersRule : List ℕ → state.Trees → Result (Option ParserRule) error.ReadError → Type 0
AnswersRule text us result =
    Answers (first_flaw text us) result (λ rule. ReadsRule text us (option_map rule_view rule))

abbrev pub AnswersRules : List ℕ → state.Trees → Result (Vec ParserRule Global) error.ReadError → Type 0
AnswersRules text us result =
    Answers (first_flaw text us) result (λ rules. ReadsRules text us (rule_views rules.items))

-- the text that a literal from i to j denotes, by the trees in it, or its flaw
abbrev pub AnswersLiteral : List ℕ → ℕ → ℕ → state.Trees → Result (String Global) error.ReadError → Type 0
AnswersLiteral text i j us result =
    Answers (wrong_literal text i j us) result (λ s. chars (string_bytes s) ≡ literal_value text us)

-- the numbers of a postfix operator that counts, by the trees in it, or their first flaw
abbrev pub AnswersCount : {N : Type 0} → List ℕ → Text → state.Trees → (N → Unary) → Result N error.ReadError
    → Type 0
AnswersCount text r us says result = Answers (first_flaw text us) result (λ n. Postfix text r us (says n))

-- the operator of a number of repetitions
abbrev pub operator_of : code_times.Times → Unary
operator_of times_is.AtMostOnce = Opt
operator_of times_is.AnyTimes = Rep
operator_of times_is.OnceOrMore = RepOnce
operator_of (times_is.Exactly n) = RepExact n
operator_of (times_is.AtLeast n) = RepMin n
operator_of (times_is.AtMost n) = RepMax n
operator_of (times_is.Between m n) = RepMinMax m n

-- the binary operator of an infix
abbrev pub binary_of : code_infix.Infix → Binary
binary_of infix_is.Sequence = Seq
binary_of infix_is.Choice = Choice

-- two numbers are equal, or both are past the greatest scalar value
abbrev pub IsSameNumber : ℕ → ℕ → Type 0
IsSameNumber v n = (v ≡ n) ⊎ ((0x110000 ≤ v) × (0x110000 ≤ n))

-- the number that an escape names, and the rest after it, where f reads the characters of the text
abbrev pub Names : (List ℕ → List ℕ) → List ℕ → ℕ × Bor (List ℕ) → Type 0
Names f t x = (n : ℕ) × IsSameNumber x.0 n × (f (chars t) ≡ n ∷ unescaped (chars x.1.now))

-- an answer about an escape: its number, or none where the text ends in it
abbrev pub NamesFirst : (List ℕ → List ℕ) → List ℕ → Option (ℕ × Bor (List ℕ)) → Type 0
NamesFirst f t result = MatchOption result (f (chars t) ≡ []) (Names f t)

-- the text with its escapes read, or none where one names no character
abbrev pub Unescapes : {X : Type 0} → (X → List ℕ) → List ℕ → Option X → Type 0
Unescapes of t result =
    MatchOption result (all_scalars (unescaped t) ≡ false)
    (λ s. (all_scalars (unescaped t) ≡ true) × (of s ≡ unescaped t))

-- a node in the text, before some trees
pub record IsNodeBefore (text : List ℕ) (n : ParserNode) (us : state.Trees) : Type 0 where
  pub same_text : span_text n.span ≡ text
  pub behind : AreAfter text (span_end n.span) us

-- a postfix operator's node round another
pub record IsPostfixOf (text : List ℕ) (r : Text) (us : state.Trees) (s : spanned.Span) (n x : ParserNode)
    : Type 0 where
  pub operator : Unary
  pub says : Postfix text r us operator
  pub round : view x ≡ One s operator (view n)

-- a node with a postfix operator applied, and the span of both, or the operator's flaw
abbrev pub AnswersPostfix : Span → FirstTree → ParserNode → Result ParserNode error.ReadError → Type 0
AnswersPostfix span operator node result =
    let text = span_text span in
    let us = named_trees_of operator.inner.now in
    Answers (first_flaw text us) result (IsPostfixOf text (name_of operator.rule) us (piece_of span) node)

-- a node with the postfix operators after it applied, or their first flaw
abbrev pub AnswersPostfixes : List ℕ → state.Trees → ParserNode → Result ParserNode error.ReadError → Type 0
AnswersPostfixes text us node result =
    Answers (first_flaw text us) result (λ n. Postfixed text (view node) us (view n))

-- the number that may come first, and the trees after it
pub data TakesNumber (text : List ℕ) : state.Trees → Option ℤ → state.Trees → Type 0 where
  a_number : {from to : ℕ} {us : state.Trees}
      → TakesNumber text (Lone (codes "integer") from to us) (Some (integer text from to)) us
  the_dots : {from to : ℕ} {us : state.Trees}
      → TakesNumber text (Lone (codes "range_operator") from to us) None
      (Lone (codes "range_operator") from to us)
  the_end : {from to : ℕ}
      → TakesNumber text (Lone (codes "closing_brack") from to state.None') None
      (Lone (codes "closing_brack") from to state.None')

-- an answer about a bound: the first flaw is the number's, or that of the trees after it
pub record TakesBound (text : List ℕ) (us : state.Trees) (n : Option ℤ) (rest : state.Trees) : Type 0 where
  pub takes : TakesNumber text us n rest
  pub flaws : first_flaw text us ≡ first_flaw text rest

abbrev pub AnswersBound : List ℕ → state.Trees
    → Result (Option ℤ × Bor (List TokenNode)) error.ReadError → Type 0
AnswersBound text us result =
    MatchResult result (λ x. TakesBound text us x.0 (named_trees_of x.1.now)) (IsFirst (first_flaw text us))

-- the number of trees, with the ends of their lists
abbrev pub count_of : state.Trees → ℕ
count_of state.None' = 1
count_of (state.Tree r i j inner others) = 1 + (count_of inner + count_of others)

-- the alternatives of an expression, after a bar before the first
pub record IsAfterBar (text : List ℕ) (us vs : state.Trees) : Type 0 where
  pub shape : AreTerms text vs
  pub nested : AreInText text us → AreInText text vs
  pub reads : (x : Spanned) → Reads text Alternatives vs x → Reads text AnExpression us x
  pub flaws : first_flaw text us ≡ first_flaw text vs
  pub shorter : count_of vs ≤ count_of us

-- the trees after a sequence: nothing, or a bar and terms
pub data IsRest (text : List ℕ) : state.Trees → Type 0 where
  at_end : IsRest text state.None'
  at_bar : {from to : ℕ} {us : state.Trees} → AreTerms text us
      → IsRest text (Lone (codes "choice_operator") from to us)

-- a tilde, a term and more
pub data TakesTerm (text : List ℕ) : state.Trees → state.Trees → state.Trees → Type 0 where
  takes_term : {tilde_at tilde_to term_at term_to : ℕ} {inner us : state.Trees} → IsTerm text inner
      → IsMore text us
      → TakesTerm text (Lone (codes "sequence_operator") tilde_at tilde_to
      (state.Tree (codes "term") term_at term_to inner us)) inner us

-- the trees where a rule's modifier may be: a modifier, or at once the opening brace
pub data MayBeModifier : state.Trees → Type 0 where
  a_modifier : {r : Text} {from to : ℕ} {us : state.Trees} → IsModifier r → MayBeModifier (Lone r from to us)
  the_brace : {from to : ℕ} {us : state.Trees} → MayBeModifier (Lone (codes "opening_brace") from to us)

-- the type that a modifier gives, and the trees after it
pub data TakesModifier : state.Trees → meaning.RuleType → state.Trees → Type 0 where
  a_type : {r : Text} {t : meaning.RuleType} {from to : ℕ} {us : state.Trees} → Modifies r t
      → TakesModifier (Lone r from to us) t us
  no_type : {from to : ℕ} {us : state.Trees} → TakesModifier (Lone (codes "opening_brace") from to us)
      meaning.Normal (Lone (codes "opening_brace") from to us)
