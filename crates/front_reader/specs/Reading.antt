-- The spanned expressions and rules that the trees of a grammar's text are read as.
use Rattle.std.specs.Prelude.{ℕ, ℤ, pos, List, [], ◌∷◌, Option, Some, None, codes, chars}
use Rattle.std.specs.List.{slice_range}
use Rattle.std.specs.Str.Parse.{digits_value, signed_digits_value}
use Rattle.base_language.specs.Language.Text.{Text}
use Rattle.base_language.specs.Language.Expression.{Expression, Str, Insens, Range, Ident, PeekSlice, PushLiteral, RuleType, Normal, Silent, Atomic, CompoundAtomic, NonAtomic}
use Rattle.base_language.specs.Language.State.{Trees, None', Tree, joined}
use Rattle.base_language.specs.Pieces.Saying.{piece}
use Rattle.front_grammar.specs.Shape.{Lone, Braced}
use Rattle.front_spanned.specs.Spanned.{Span, Spanned, Leaf, One, Two, Unary, PosPred, NegPred, Opt, Rep, RepOnce, RepExact, RepMin, RepMax, RepMinMax, Push, Tag, Binary, Seq, Choice, start_of, end_of, starting, ending, SpannedRule}
use Rattle.front_reader.specs.Literal.{unescaped}

-- the categories of syntax that a list of trees may be read as
pub data Category : Type 0 where
  AnExpression : Category
  Alternatives : Category
  ASequence : Category
  ATerm : Category
  ANode : Category

-- the type that a modifier gives
pub data Modifies : Text → RuleType → Type 0 where
  silent : Modifies (codes "silent_modifier") Silent
  atomic : Modifies (codes "atomic_modifier") Atomic
  compound_atomic : Modifies (codes "compound_atomic_modifier") CompoundAtomic
  non_atomic : Modifies (codes "non_atomic_modifier") NonAtomic

-- a text without its first character
abbrev pub behind_first : Text → Text
behind_first [] = []
behind_first (c ∷ t) = t

module _ (text : List ℕ) where
  -- the text between two positions: characters, a number, a number with a sign
  abbrev pub characters_between : ℕ → ℕ → Text
  characters_between i j = chars (slice_range text i j)

  abbrev pub number : ℕ → ℕ → ℕ
  number i j = digits_value 10 (slice_range text i j)

  abbrev pub integer : ℕ → ℕ → ℤ
  integer i j = signed_digits_value 10 (slice_range text i j)

  -- a tag without its `#`
  abbrev pub tag_name : ℕ → ℕ → Text
  tag_name i j = behind_first (characters_between i j)

  -- the text that a literal denotes, by the trees in it: a quote, the quoted text, a quote
  abbrev pub literal_value : Trees → Text
  literal_value (Tree q i j inner (Tree r k l inner' us)) = unescaped (characters_between k l)
  literal_value us = []

  -- two nodes round an operator
  abbrev pub both : Binary → Spanned → Spanned → Spanned
  both f x y = Two (piece text (start_of x) (end_of y)) f x y

  -- a postfix operator that ends at j, round its operand
  abbrev pub around : ℕ → Unary → Spanned → Spanned
  around j f x = One (piece text (start_of x) j) f x

  -- the operator that postfix trees spell; a tree begins at `_at`, and ends at `_to`
  pub data Postfix : Text → Trees → Unary → Type 0 where
    opt : {us : Trees} → Postfix (codes "optional_operator") us Opt
    rep : {us : Trees} → Postfix (codes "repeat_operator") us Rep
    rep_once : {us : Trees} → Postfix (codes "repeat_once_operator") us RepOnce
    exact : {open_at open_to number_at number_to close_at close_to : ℕ}
        → Postfix (codes "repeat_exact")
        (Lone (codes "opening_brace") open_at open_to
        (Lone (codes "number") number_at number_to
        (Lone (codes "closing_brace") close_at close_to None')))
        (RepExact (number number_at number_to))
    min : {open_at open_to number_at number_to comma_at comma_to close_at close_to : ℕ}
        → Postfix (codes "repeat_min")
        (Lone (codes "opening_brace") open_at open_to
        (Lone (codes "number") number_at number_to
        (Lone (codes "comma") comma_at comma_to
        (Lone (codes "closing_brace") close_at close_to None'))))
        (RepMin (number number_at number_to))
    max : {open_at open_to comma_at comma_to number_at number_to close_at close_to : ℕ}
        → Postfix (codes "repeat_max")
        (Lone (codes "opening_brace") open_at open_to
        (Lone (codes "comma") comma_at comma_to
        (Lone (codes "number") number_at number_to
        (Lone (codes "closing_brace") close_at close_to None'))))
        (RepMax (number number_at number_to))
    min_max : {open_at open_to least_at least_to comma_at comma_to most_at most_to close_at close_to : ℕ}
        → Postfix (codes "repeat_min_max")
        (Lone (codes "opening_brace") open_at open_to
        (Lone (codes "number") least_at least_to
        (Lone (codes "comma") comma_at comma_to
        (Lone (codes "number") most_at most_to
        (Lone (codes "closing_brace") close_at close_to None')))))
        (RepMinMax (number least_at least_to) (number most_at most_to))

  -- a node, and the result of the postfix operators after it
  pub data Postfixed : Spanned → Trees → Spanned → Type 0 where
    done : {x : Spanned} → Postfixed x None' x
    more : {x y : Spanned} {r : Text} {from to : ℕ} {inner us : Trees} {f : Unary}
        → Postfix r inner f → Postfixed (around to f x) us y → Postfixed x (Tree r from to inner us) y

  -- the expression of a tree of a rule, from one position to another, where it has no operands
  pub data Terminal : Text → ℕ → ℕ → Trees → Expression → Type 0 where
    identifier : {from to : ℕ} {us : Trees}
        → Terminal (codes "identifier") from to us (Ident (characters_between from to))
    string : {from to : ℕ} {us : Trees} → Terminal (codes "string") from to us (Str (literal_value us))
    insensitive : {from to string_at string_to : ℕ} {us vs : Trees}
        → Terminal (codes "insensitive_string") from to
        (Tree (codes "string") string_at string_to us vs) (Insens (literal_value us))
    range : {from to low_at low_to dots_at dots_to high_at high_to : ℕ} {us vs : Trees}
        → Terminal (codes "range") from to
        (Tree (codes "character") low_at low_to us
        (Lone (codes "range_operator") dots_at dots_to
        (Tree (codes "character") high_at high_to vs None')))
        (Range (literal_value us) (literal_value vs))
    slice : {from to open_at open_to dots_at dots_to close_at close_to : ℕ}
        → Terminal (codes "peek_slice") from to
        (Lone (codes "opening_brack") open_at open_to
        (Lone (codes "range_operator") dots_at dots_to
        (Lone (codes "closing_brack") close_at close_to None')))
        (PeekSlice (pos 0) None)
    slice_from : {from to open_at open_to low_at low_to dots_at dots_to close_at close_to : ℕ}
        → Terminal (codes "peek_slice") from to
        (Lone (codes "opening_brack") open_at open_to
        (Lone (codes "integer") low_at low_to
        (Lone (codes "range_operator") dots_at dots_to
        (Lone (codes "closing_brack") close_at close_to None'))))
        (PeekSlice (integer low_at low_to) None)
    slice_to : {from to open_at open_to dots_at dots_to high_at high_to close_at close_to : ℕ}
        → Terminal (codes "peek_slice") from to
        (Lone (codes "opening_brack") open_at open_to
        (Lone (codes "range_operator") dots_at dots_to
        (Lone (codes "integer") high_at high_to
        (Lone (codes "closing_brack") close_at close_to None'))))
        (PeekSlice (pos 0) (Some (integer high_at high_to)))
    slice_between : {from to open_at open_to low_at low_to dots_at dots_to : ℕ}
        {high_at high_to close_at close_to : ℕ}
        → Terminal (codes "peek_slice") from to
        (Lone (codes "opening_brack") open_at open_to
        (Lone (codes "integer") low_at low_to
        (Lone (codes "range_operator") dots_at dots_to
        (Lone (codes "integer") high_at high_to
        (Lone (codes "closing_brack") close_at close_to None')))))
        (PeekSlice (integer low_at low_to) (Some (integer high_at high_to)))

  pub data Reads : Category → Trees → Spanned → Type 0 where
    -- a bar before the first alternative says nothing
    barred : {bar_at bar_to : ℕ} {us : Trees} {x : Spanned}
        → Reads Alternatives us x → Reads AnExpression (Lone (codes "choice_operator") bar_at bar_to us) x
    unbarred : {us : Trees} {x : Spanned} → Reads Alternatives us x → Reads AnExpression us x
    -- a choice splits at its last bar, a sequence at its last tilde
    one_alternative : {us : Trees} {x : Spanned} → Reads ASequence us x → Reads Alternatives us x
    choice : (bar_at bar_to : ℕ) {us vs : Trees} {x y : Spanned}
        → Reads Alternatives us x → Reads ASequence vs y
        → Reads Alternatives (joined us (Lone (codes "choice_operator") bar_at bar_to vs)) (both Choice x y)
    one_term : {us : Trees} {x : Spanned} {from to : ℕ}
        → Reads ATerm us x → Reads ASequence (Tree (codes "term") from to us None') x
    sequence : (tilde_at tilde_to term_at term_to : ℕ) {us vs : Trees} {x y : Spanned}
        → Reads ASequence us x → Reads ATerm vs y
        → Reads ASequence
        (joined us (Lone (codes "sequence_operator") tilde_at tilde_to
        (Tree (codes "term") term_at term_to vs None')))
        (both Seq x y)
    -- a tag and a predicate take the rest of their term
    tagged : {us : Trees} {x : Spanned} {tag_at tag_to equals_at equals_to : ℕ}
        → Reads ATerm us x
        → Reads ATerm
        (Lone (codes "tag_id") tag_at tag_to (Lone (codes "assignment_operator") equals_at equals_to us))
        (One (piece text tag_at (end_of x)) (Tag (tag_name tag_at tag_to)) x)
    pos_pred : {us : Trees} {x : Spanned} {sign_at sign_to : ℕ}
        → Reads ATerm us x
        → Reads ATerm (Lone (codes "positive_predicate_operator") sign_at sign_to us)
        (One (piece text sign_at (end_of x)) PosPred x)
    neg_pred : {us : Trees} {x : Spanned} {sign_at sign_to : ℕ}
        → Reads ATerm us x
        → Reads ATerm (Lone (codes "negative_predicate_operator") sign_at sign_to us)
        (One (piece text sign_at (end_of x)) NegPred x)
    -- a node begins and ends with its token; in parentheses it ends with the second, and the outermost
    -- begins with the first
    bare : {r : Text} {from to : ℕ} {inner us : Trees} {x y : Spanned}
        → Reads ANode (Tree r from to inner None') x → Postfixed x us y
        → Reads ATerm (Tree r from to inner us) y
    grouped : {open_at open_to body_at body_to close_at close_to : ℕ} {inner us : Trees} {x y : Spanned}
        → Reads AnExpression inner x → Postfixed (ending close_to x) us y
        → Reads ATerm
        (Lone (codes "opening_paren") open_at open_to
        (Tree (codes "expression") body_at body_to inner
        (Lone (codes "closing_paren") close_at close_to us)))
        (starting open_at y)
    leaf : {r : Text} {from to : ℕ} {inner : Trees} {e : Expression}
        → Terminal r from to inner e → Reads ANode (Tree r from to inner None') (Leaf (piece text from to) e)
    -- `PUSH` ends where its operand does
    pushed : {from to open_at open_to body_at body_to close_at close_to : ℕ} {inner us : Trees} {x : Spanned}
        → Reads AnExpression inner x
        → Reads ANode
        (Tree (codes "_push") from to
        (Lone (codes "opening_paren") open_at open_to
        (Tree (codes "expression") body_at body_to inner
        (Lone (codes "closing_paren") close_at close_to us)))
        None')
        (One (piece text from (end_of x)) Push x)
    -- a literal push has the span of its string
    literally_pushed : {from to open_at open_to string_at string_to close_at close_to : ℕ} {us : Trees}
        → Reads ANode
        (Tree (codes "_push_literal") from to
        (Lone (codes "opening_paren") open_at open_to
        (Tree (codes "string") string_at string_to us
        (Lone (codes "closing_paren") close_at close_to None')))
        None')
        (Leaf (piece text string_at string_to) (PushLiteral (literal_value us)))

  -- a rule whose name reaches from one position to another; a comment that documents one gives none
  pub data ReadsRule : Trees → Option SpannedRule → Type 0 where
    line_doc : {from to : ℕ} {inner : Trees} → ReadsRule (Tree (codes "line_doc") from to inner None') None
    normal : {from to equals_at equals_to open_at open_to body_at body_to close_at close_to : ℕ}
        {body : Trees} {x : Spanned}
        → Reads AnExpression body x
        → ReadsRule
        (Lone (codes "identifier") from to
        (Lone (codes "assignment_operator") equals_at equals_to
        (Braced open_at open_to body_at body_to close_at close_to body)))
        (Some (record {
          name = characters_between from to;
          span = piece text from to;
          type_of = Normal;
          body = x;
        }))
    modified : {from to equals_at equals_to open_at open_to body_at body_to close_at close_to : ℕ}
        {sign_at sign_to : ℕ} {r : Text} {t : RuleType} {body : Trees} {x : Spanned}
        → Modifies r t → Reads AnExpression body x
        → ReadsRule
        (Lone (codes "identifier") from to
        (Lone (codes "assignment_operator") equals_at equals_to
        (Lone r sign_at sign_to
        (Braced open_at open_to body_at body_to close_at close_to body))))
        (Some (record {
          name = characters_between from to;
          span = piece text from to;
          type_of = t;
          body = x;
        }))

  -- the rules of a whole text; comments that document it give none
  pub data ReadsRules : Trees → List SpannedRule → Type 0 where
    end_of_input : {from to : ℕ} → ReadsRules (Lone (codes "EOI") from to None') []
    grammar_doc : {from to : ℕ} {inner us : Trees} {rs : List SpannedRule}
        → ReadsRules us rs → ReadsRules (Tree (codes "grammar_doc") from to inner us) rs
    documented : {from to : ℕ} {inner us : Trees} {rs : List SpannedRule}
        → ReadsRule inner None → ReadsRules us rs
        → ReadsRules (Tree (codes "grammar_rule") from to inner us) rs
    defined : {from to : ℕ} {inner us : Trees} {r : SpannedRule} {rs : List SpannedRule}
        → ReadsRule inner (Some r) → ReadsRules us rs
        → ReadsRules (Tree (codes "grammar_rule") from to inner us) (r ∷ rs)
