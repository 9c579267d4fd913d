-- The shape of the trees of a grammar's text: where they occur, and that numbers are written in digits.
use Rattle.std.specs.Prelude.{◌≡◌, ℕ, List, codes}
use Rattle.std.specs.List.{slice_range}
use Rattle.std.specs.Str.Parse.{IsNumeral, without_leading_sign, without_leading_plus}
use Rattle.base_language.specs.Language.Text.{Text}
use Rattle.base_language.specs.Language.State.{Trees, None', Tree}

-- a tree that holds none, before others
abbrev pub Lone : Text → ℕ → ℕ → Trees → Trees
Lone r lone_at lone_to us = Tree r lone_at lone_to None' us

-- a rule's body, after its modifier
abbrev pub Braced : ℕ → ℕ → ℕ → ℕ → ℕ → ℕ → Trees → Trees
Braced open_at open_to body_at body_to close_at close_to body =
    Lone (codes "opening_brace") open_at open_to
    (Tree (codes "expression") body_at body_to body
    (Lone (codes "closing_brace") close_at close_to None'))

-- the signs of predicates
pub data IsPrefix : Text → Type 0 where
  positive : IsPrefix (codes "positive_predicate_operator")
  negative : IsPrefix (codes "negative_predicate_operator")

-- the operators between terms
pub data IsInfix : Text → Type 0 where
  tilde : IsInfix (codes "sequence_operator")
  bar : IsInfix (codes "choice_operator")

-- the modifiers of rules
pub data IsModifier : Text → Type 0 where
  silent : IsModifier (codes "silent_modifier")
  atomic : IsModifier (codes "atomic_modifier")
  compound_atomic : IsModifier (codes "compound_atomic_modifier")
  non_atomic : IsModifier (codes "non_atomic_modifier")

-- between two positions there are digits
pub record IsNumber (text : List ℕ) (number_at number_to : ℕ) : Type 0 where
  pub digits : IsNumeral 10 (slice_range text number_at number_to)
  pub unsigned : without_leading_plus (slice_range text number_at number_to)
      ≡ slice_range text number_at number_to

-- between two positions there are digits, or a sign and digits
abbrev pub IsInteger : List ℕ → ℕ → ℕ → Type 0
IsInteger text number_at number_to =
    IsNumeral 10 (without_leading_sign (slice_range text number_at number_to))

-- a literal's trees: a quote, the text, a quote
pub data IsQuoted : Trees → Type 0 where
  in_quotes : {open_at open_to inner_at inner_to close_at close_to : ℕ}
      → IsQuoted (Lone (codes "quote") open_at open_to
      (Lone (codes "inner_str") inner_at inner_to (Lone (codes "quote") close_at close_to None')))
  in_single_quotes : {open_at open_to inner_at inner_to close_at close_to : ℕ}
      → IsQuoted (Lone (codes "single_quote") open_at open_to
      (Lone (codes "inner_chr") inner_at inner_to (Lone (codes "single_quote") close_at close_to None')))

module _ (text : List ℕ) where
  -- an operator that counts, with the trees in it
  pub data IsCounted : Text → Trees → Type 0 where
    exact : {open_at open_to number_at number_to close_at close_to : ℕ} → IsNumber text number_at number_to
        → IsCounted (codes "repeat_exact")
        (Lone (codes "opening_brace") open_at open_to
        (Lone (codes "number") number_at number_to (Lone (codes "closing_brace") close_at close_to None')))
    min : {open_at open_to least_at least_to comma_at comma_to close_at close_to : ℕ}
        → IsNumber text least_at least_to
        → IsCounted (codes "repeat_min")
        (Lone (codes "opening_brace") open_at open_to
        (Lone (codes "number") least_at least_to
        (Lone (codes "comma") comma_at comma_to (Lone (codes "closing_brace") close_at close_to None'))))
    max : {open_at open_to most_at most_to comma_at comma_to close_at close_to : ℕ}
        → IsNumber text most_at most_to
        → IsCounted (codes "repeat_max")
        (Lone (codes "opening_brace") open_at open_to
        (Lone (codes "comma") comma_at comma_to
        (Lone (codes "number") most_at most_to (Lone (codes "closing_brace") close_at close_to None'))))
    min_max : {open_at open_to least_at least_to comma_at comma_to most_at most_to close_at close_to : ℕ}
        → IsNumber text least_at least_to → IsNumber text most_at most_to
        → IsCounted (codes "repeat_min_max")
        (Lone (codes "opening_brace") open_at open_to
        (Lone (codes "number") least_at least_to (Lone (codes "comma") comma_at comma_to
        (Lone (codes "number") most_at most_to (Lone (codes "closing_brace") close_at close_to None')))))

  -- a postfix operator, with the trees in it
  pub data IsPostfix : Text → Trees → Type 0 where
    opt : IsPostfix (codes "optional_operator") None'
    rep : IsPostfix (codes "repeat_operator") None'
    rep_once : IsPostfix (codes "repeat_once_operator") None'
    counted : {r : Text} {us : Trees} → IsCounted r us → IsPostfix r us

  -- postfix operators, one after another
  pub data ArePostfixes : Trees → Type 0 where
    done : ArePostfixes None'
    more : {r : Text} {postfix_at postfix_to : ℕ} {inner us : Trees} → IsPostfix r inner → ArePostfixes us
        → ArePostfixes (Tree r postfix_at postfix_to inner us)

  -- an optional number of a slice: the number, or the dots or the closing bracket at once
  pub data MayBeNumber : Trees → Type 0 where
    a_number : {number_at number_to : ℕ} {us : Trees} → IsInteger text number_at number_to
        → MayBeNumber (Lone (codes "integer") number_at number_to us)
    the_dots : {dots_at dots_to : ℕ} {us : Trees}
        → MayBeNumber (Lone (codes "range_operator") dots_at dots_to us)
    the_end : {close_at close_to : ℕ} → MayBeNumber (Lone (codes "closing_brack") close_at close_to None')

  -- the trees of a slice after its dots
  pub data IsSliceEnd : Trees → Type 0 where
    open_end : {close_at close_to : ℕ} → IsSliceEnd (Lone (codes "closing_brack") close_at close_to None')
    up_to : {number_at number_to close_at close_to : ℕ} → IsInteger text number_at number_to
        → IsSliceEnd (Lone (codes "integer") number_at number_to
        (Lone (codes "closing_brack") close_at close_to None'))

  -- the trees of a slice after its opening bracket
  pub data IsSliceStart : Trees → Type 0 where
    open_start : {dots_at dots_to : ℕ} {us : Trees} → IsSliceEnd us
        → IsSliceStart (Lone (codes "range_operator") dots_at dots_to us)
    from : {number_at number_to dots_at dots_to : ℕ} {us : Trees} → IsInteger text number_at number_to
        → IsSliceEnd us → IsSliceStart (Lone (codes "integer") number_at number_to
        (Lone (codes "range_operator") dots_at dots_to us))

  -- all trees of a slice
  pub data IsSlice : Trees → Type 0 where
    in_brackets : {open_at open_to : ℕ} {us : Trees} → IsSliceStart us
        → IsSlice (Lone (codes "opening_brack") open_at open_to us)

  -- a terminal that contains no expression, with the trees in it
  pub data IsTerminal : Text → Trees → Type 0 where
    identifier : IsTerminal (codes "identifier") None'
    string : {us : Trees} → IsQuoted us → IsTerminal (codes "string") us
    insensitive : {string_at string_to : ℕ} {us : Trees} → IsQuoted us
        → IsTerminal (codes "insensitive_string") (Tree (codes "string") string_at string_to us None')
    range : {low_at low_to dots_at dots_to high_at high_to : ℕ} {low high : Trees}
        → IsQuoted low → IsQuoted high
        → IsTerminal (codes "range") (Tree (codes "character") low_at low_to low
        (Lone (codes "range_operator") dots_at dots_to
        (Tree (codes "character") high_at high_to high None')))
    slice : {us : Trees} → IsSlice us → IsTerminal (codes "peek_slice") us
    push_literal : {open_at open_to string_at string_to close_at close_to : ℕ} {us : Trees} → IsQuoted us
        → IsTerminal (codes "_push_literal") (Lone (codes "opening_paren") open_at open_to
        (Tree (codes "string") string_at string_to us
        (Lone (codes "closing_paren") close_at close_to None')))

  mutual
    -- terms, and a bar before them that says nothing
    pub data IsExpression : Trees → Type 0 where
      barred : {bar_at bar_to : ℕ} {us : Trees} → AreTerms us
          → IsExpression (Lone (codes "choice_operator") bar_at bar_to us)
      unbarred : {us : Trees} → AreTerms us → IsExpression us

    -- a term, and more after it
    pub data AreTerms : Trees → Type 0 where
      terms : {term_at term_to : ℕ} {inner us : Trees} → IsTerm inner → IsMore us
          → AreTerms (Tree (codes "term") term_at term_to inner us)

    -- nothing, or an operator and terms
    pub data IsMore : Trees → Type 0 where
      no_more : IsMore None'
      infix_operator : {r : Text} {infix_at infix_to : ℕ} {us : Trees} → IsInfix r → AreTerms us
          → IsMore (Lone r infix_at infix_to us)

    -- a tag, predicates, a node or an expression in parentheses, and postfix operators
    pub data IsTerm : Trees → Type 0 where
      tagged : {tag_at tag_to equals_at equals_to : ℕ} {us : Trees} → IsTerm us
          → IsTerm (Lone (codes "tag_id") tag_at tag_to
          (Lone (codes "assignment_operator") equals_at equals_to us))
      predicate : {r : Text} {sign_at sign_to : ℕ} {us : Trees} → IsPrefix r → IsTerm us
          → IsTerm (Lone r sign_at sign_to us)
      grouped : {open_at open_to body_at body_to close_at close_to : ℕ} {inner us : Trees}
          → IsExpression inner → ArePostfixes us
          → IsTerm (Lone (codes "opening_paren") open_at open_to
          (Tree (codes "expression") body_at body_to inner
          (Lone (codes "closing_paren") close_at close_to us)))
      bare : {r : Text} {node_at node_to : ℕ} {inner us : Trees} → IsNode r inner → ArePostfixes us
          → IsTerm (Tree r node_at node_to inner us)

    -- a node's rule, with the trees in it
    pub data IsNode : Text → Trees → Type 0 where
      terminal : {r : Text} {us : Trees} → IsTerminal r us → IsNode r us
      pushed : {open_at open_to body_at body_to close_at close_to : ℕ} {inner : Trees} → IsExpression inner
          → IsNode (codes "_push") (Lone (codes "opening_paren") open_at open_to
          (Tree (codes "expression") body_at body_to inner
          (Lone (codes "closing_paren") close_at close_to None')))

  -- a rule's trees
  pub data IsRule : Trees → Type 0 where
    line_doc : {doc_at doc_to inner_at inner_to : ℕ}
        → IsRule (Tree (codes "line_doc") doc_at doc_to
        (Lone (codes "inner_doc") inner_at inner_to None') None')
    normal : {name_at name_to equals_at equals_to open_at open_to body_at body_to close_at close_to : ℕ}
        {body : Trees} → IsExpression body
        → IsRule (Lone (codes "identifier") name_at name_to
        (Lone (codes "assignment_operator") equals_at equals_to
        (Braced open_at open_to body_at body_to close_at close_to body)))
    modified : {name_at name_to equals_at equals_to open_at open_to body_at body_to close_at close_to : ℕ}
        {modifier_at modifier_to : ℕ} {r : Text} {body : Trees} → IsModifier r → IsExpression body
        → IsRule (Lone (codes "identifier") name_at name_to
        (Lone (codes "assignment_operator") equals_at equals_to
        (Lone r modifier_at modifier_to
        (Braced open_at open_to body_at body_to close_at close_to body))))

  -- the trees of a whole text
  pub data AreGrammarTrees : Trees → Type 0 where
    end_of_input : {end_at end_to : ℕ} → AreGrammarTrees (Lone (codes "EOI") end_at end_to None')
    grammar_doc : {doc_at doc_to inner_at inner_to : ℕ} {us : Trees} → AreGrammarTrees us
        → AreGrammarTrees (Tree (codes "grammar_doc") doc_at doc_to
        (Lone (codes "inner_doc") inner_at inner_to None') us)
    grammar_rule : {rule_at rule_to : ℕ} {inner us : Trees} → IsRule inner → AreGrammarTrees us
        → AreGrammarTrees (Tree (codes "grammar_rule") rule_at rule_to inner us)
