-- In the trees of a grammar, tokens that are read by their texts hold no other.
use Rattle.std.proofs.Common.{◌≡◌, ℕ, List, Bool, true, false, ◌&&◌, not, if◌then◌else◌, refl, codes}
use Rattle.std.specs.Prelude.{bytes_eq}
use Rattle.base_language.specs.Language.Text.{Text}
use Rattle.base_language.specs.Language.State.{Trees, None', Tree}
use Rattle.front_reader.specs.Flaws.{first_inner}
use Rattle.front_grammar.specs.Shape as shape
use Rattle.front_grammar.specs.Shape.{IsQuoted, IsCounted, IsPostfix, ArePostfixes, IsSliceEnd, IsSliceStart, IsSlice, IsTerminal, IsExpression, AreTerms, IsMore, IsTerm, IsNode, IsRule, AreGrammarTrees}

abbrev pub is_none : Trees → Bool
is_none None' = true
is_none (Tree r i j inner us) = false

-- whether the second of the trees holds none, and is no comment
abbrev pub is_quoted : Trees → Bool
is_quoted (Tree q i j inner (Tree r k l None' us)) = not (bytes_eq r (codes "inner_doc"))
is_quoted _ = false

-- whether a tree of the rule r may hold these trees
abbrev pub may_hold : Text → Trees → Bool
may_hold r inner =
    if bytes_eq r (codes "string") then is_quoted inner
    else (if bytes_eq r (codes "character") then is_quoted inner
    else (if bytes_eq r (codes "insensitive_string") then is_quoted (first_inner inner)
    else (if bytes_eq r (codes "integer") then is_none inner
    else (if bytes_eq r (codes "number") then is_none inner
    else (if bytes_eq r (codes "identifier") then is_none inner else true)))))

-- whether each tree holds what it may
abbrev pub all_hold : Trees → Bool
all_hold None' = true
all_hold (Tree r i j inner us) = may_hold r inner && (all_hold inner && all_hold us)

both : (a b : Bool) → a ≡ true → b ≡ true → (a && b) ≡ true
both a b p q = rw (p, q) refl

-- of a tree and those after it
tree : (r : Text) (i j : ℕ) (inner us : Trees) → may_hold r inner ≡ true → all_hold inner ≡ true → all_hold us ≡ true → all_hold (Tree r i j inner us) ≡ true
tree r i j inner us f g h = both (may_hold r inner) _ f (both (all_hold inner) (all_hold us) g h)

record Holds (r : Text) (us : Trees) : Type 0 where
  itself : may_hold r us ≡ true
  within : all_hold us ≡ true

quoted_is : {us : Trees} → IsQuoted us → is_quoted us ≡ true
quoted_is shape.in_quotes = refl
quoted_is shape.in_single_quotes = refl

quoted : {us : Trees} → IsQuoted us → all_hold us ≡ true
quoted shape.in_quotes = refl
quoted shape.in_single_quotes = refl

module _ (text : List ℕ) where
  counted : {r : Text} {us : Trees} → IsCounted text r us → Holds r us
  counted (shape.exact k) = record { itself = refl; within = refl }
  counted (shape.min k) = record { itself = refl; within = refl }
  counted (shape.max k) = record { itself = refl; within = refl }
  counted (shape.min_max k l) = record { itself = refl; within = refl }

  postfix : {r : Text} {us : Trees} → IsPostfix text r us → Holds r us
  postfix shape.opt = record { itself = refl; within = refl }
  postfix shape.rep = record { itself = refl; within = refl }
  postfix shape.rep_once = record { itself = refl; within = refl }
  postfix (shape.counted k) = counted k

  postfixes : {us : Trees} → ArePostfixes text us → all_hold us ≡ true
  postfixes shape.done = refl
  postfixes (shape.more {r = r} {postfix_at = i} {postfix_to = j} {inner = inner} {us = us} p d) =
      let h = postfix p in
      tree r i j inner us h.itself h.within (postfixes d)

  slice_end : {us : Trees} → IsSliceEnd text us → all_hold us ≡ true
  slice_end shape.open_end = refl
  slice_end (shape.up_to k) = refl

  slice_start : {us : Trees} → IsSliceStart text us → all_hold us ≡ true
  slice_start (shape.open_start e) = slice_end e
  slice_start (shape.from k e) = slice_end e

  slice : {us : Trees} → IsSlice text us → all_hold us ≡ true
  slice (shape.in_brackets s) = slice_start s

  literal : (r : Text) (i j : ℕ) (us vs : Trees) → may_hold r us ≡ true → IsQuoted us → all_hold vs ≡ true → all_hold (Tree r i j us vs) ≡ true
  literal r i j us vs f q h = tree r i j us vs f (quoted q) h

  terminal : {r : Text} {us : Trees} → IsTerminal text r us → Holds r us
  terminal shape.identifier = record { itself = refl; within = refl }
  terminal (shape.string q) = record { itself = quoted_is q; within = quoted q }
  terminal (shape.insensitive {string_at = i} {string_to = j} {us = us} q) =
      record { itself = quoted_is q; within = literal (codes "string") i j us None' (quoted_is q) q refl }
  terminal (shape.range {low_at = i} {low_to = j} {dots_at = a} {dots_to = b} {high_at = k} {high_to = l} {low = us} {high = vs} p q) =
      let high = literal (codes "character") k l vs None' (quoted_is q) q refl in
      record { itself = refl; within = literal (codes "character") i j us (Tree (codes "range_operator") a b None' (Tree (codes "character") k l vs None')) (quoted_is p) p high }
  terminal (shape.slice s) = record { itself = refl; within = slice s }
  terminal (shape.push_literal {string_at = i} {string_to = j} {close_at = k} {close_to = l} {us = us} q) =
      record { itself = refl; within = literal (codes "string") i j us (Tree (codes "closing_paren") k l None' None') (quoted_is q) q refl }

  mutual
    expression : {us : Trees} → IsExpression text us → all_hold us ≡ true
    expression (shape.barred t) = terms t
    expression (shape.unbarred t) = terms t

    terms : {us : Trees} → AreTerms text us → all_hold us ≡ true
    terms (shape.terms {inner = inner} {us = us} t m) = both (all_hold inner) (all_hold us) (term t) (more m)

    more : {us : Trees} → IsMore text us → all_hold us ≡ true
    more shape.no_more = refl
    more (shape.infix_operator shape.tilde t) = terms t
    more (shape.infix_operator shape.bar t) = terms t

    term : {us : Trees} → IsTerm text us → all_hold us ≡ true
    term (shape.tagged t) = term t
    term (shape.predicate shape.positive t) = term t
    term (shape.predicate shape.negative t) = term t
    term (shape.grouped {inner = inner} {us = us} e p) = both (all_hold inner) (all_hold us) (expression e) (postfixes p)
    term (shape.bare {r = r} {node_at = i} {node_to = j} {inner = inner} {us = us} n p) =
        let h = node n in
        tree r i j inner us h.itself h.within (postfixes p)

    node : {r : Text} {us : Trees} → IsNode text r us → Holds r us
    node (shape.terminal t) = terminal t
    node (shape.pushed {inner = inner} e) = record { itself = refl; within = both (all_hold inner) true (expression e) refl }

  rule : {us : Trees} → IsRule text us → all_hold us ≡ true
  rule shape.line_doc = refl
  rule (shape.normal {body = body} e) = both (all_hold body) true (expression e) refl
  rule (shape.modified {body = body} shape.silent e) = both (all_hold body) true (expression e) refl
  rule (shape.modified {body = body} shape.atomic e) = both (all_hold body) true (expression e) refl
  rule (shape.modified {body = body} shape.compound_atomic e) = both (all_hold body) true (expression e) refl
  rule (shape.modified {body = body} shape.non_atomic e) = both (all_hold body) true (expression e) refl

  pub grammar : {us : Trees} → AreGrammarTrees text us → all_hold us ≡ true
  grammar shape.end_of_input = refl
  grammar (shape.grammar_doc g) = grammar g
  grammar (shape.grammar_rule {inner = inner} {us = us} r g) = both (all_hold inner) (all_hold us) (rule r) (grammar g)
