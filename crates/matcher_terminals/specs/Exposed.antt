-- Rules in which each terminal is a rule of its own.
use Rattle.std.specs.Prelude.{Bool, true, false, ◌||◌, if◌then◌else◌, bytes_eq, map}
use Rattle.base_language.specs.Language.Text.{Text}
use Rattle.base_language.specs.Language.Expression.{Expression, Str, Insens, Range, Ident, PeekSlice, PosPred, NegPred, Seq, Choice, Opt, Rep, RepOnce, RepExact, RepMin, RepMax, RepMinMax, Push, NodeTag, RestoreOnErr, RuleType, Normal, Silent, Atomic, CompoundAtomic, NonAtomic, Rule, Grammar, whitespace, comment}
use Rattle.base_ast.specs.Printing.{printed}
use Rattle.front_names.specs.Names.{is_builtin}
use Rattle.matcher_support.specs.Wrapped.{wrapped_grammar}

-- a terminal takes characters, or looks at where it is or at the stack, and has no parts
abbrev pub is_terminal : Expression → Bool
is_terminal (Str t) = true
is_terminal (Insens t) = true
is_terminal (Range a b) = true
is_terminal (Ident n) = is_builtin n
is_terminal (PeekSlice i j) = true
is_terminal e = false

-- a terminal under a tag that says how it is written
abbrev pub with_label : Expression → Expression
with_label e = if is_terminal e then NodeTag e (printed e) else e

-- an expression whose terminals are tagged, and nothing else
abbrev pub labelled : Expression → Expression
labelled (PosPred e) = PosPred (labelled e)
labelled (NegPred e) = NegPred (labelled e)
labelled (Seq a b) = Seq (labelled a) (labelled b)
labelled (Choice a b) = Choice (labelled a) (labelled b)
labelled (Opt e) = Opt (labelled e)
labelled (Rep e) = Rep (labelled e)
labelled (RepOnce e) = RepOnce (labelled e)
labelled (RepExact e i) = RepExact (labelled e) i
labelled (RepMin e i) = RepMin (labelled e) i
labelled (RepMax e i) = RepMax (labelled e) i
labelled (RepMinMax e i j) = RepMinMax (labelled e) i j
labelled (Push e) = Push (labelled e)
labelled (NodeTag e t) = labelled e
labelled (RestoreOnErr e) = RestoreOnErr (labelled e)
labelled e = with_label e

-- a rule that is one token, such as an atomic one, gives a token; any other is as its parts
abbrev pub token_type : Bool → RuleType → RuleType
token_type true ty = CompoundAtomic
token_type false Normal = Silent
token_type false Silent = Silent
token_type false Atomic = CompoundAtomic
token_type false CompoundAtomic = CompoundAtomic
token_type false NonAtomic = NonAtomic

abbrev pub is_trivia : Text → Bool
is_trivia n = bytes_eq n whitespace || bytes_eq n comment

abbrev pub labelled_rule : Rule → Rule
labelled_rule r = record {
  name = r.name;
  type_of = token_type (is_trivia r.name) r.type_of;
  body = labelled r.body;
}

-- the rules of a grammar, and before them a rule for each terminal in their bodies, which they call
abbrev pub exposed : Grammar → Grammar
exposed g = wrapped_grammar (map labelled_rule g)
