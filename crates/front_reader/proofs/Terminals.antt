-- Nodes that hold no expression, by the trees in them.
use Rattle.std.proofs.Common.{◌≡◌, refl, sym, ℕ, List, Option, Some, None, pos, ℤ, Bool, true, false, not, if◌then◌else◌}
use Rattle.std.specs.Prelude.{codes, unwrap_or}
use Rattle.std.specs.Str.{all_scalars}
use Rattle.std.specs.Option.{option_or}
use Rattle.base_language.specs.Language.Text.{Text}
use Rattle.base_language.specs.Language.Expression.{Expression, Str, Insens, Range, PeekSlice, PushLiteral}
use Rattle.base_language.specs.Language.State.{Trees, None', Tree}
use Rattle.front_reader.specs.Flaws.{first_flaw, own_flaw, wrong_literal, past_i32, Flaw}
use Rattle.front_reader.specs.Reading as reading
use Rattle.front_reader.specs.Reading.{Terminal, Reads, ANode, literal_value, integer}
use Rattle.base_language.specs.Pieces.MetaRules.{name_of}
use Rattle.front_spanned.specs.Spanned.{Leaf}
use Rattle.front_grammar.specs.Shape.{Lone, IsQuoted, in_quotes, in_single_quotes, IsTerminal, identifier, string, insensitive, range, slice, push_literal, IsInteger, MayBeNumber, IsSlice, in_brackets, IsSliceStart, IsSliceEnd}
use Rattle.front_grammar.specs.Shape as shape
use Rattle.front_reader.specs.Views as views
use Rattle.front_reader.specs.Views.{TakesNumber, TakesBound}
use Rattle.base_language.specs.declared.grammar.Rule.{Rule}
use Rattle.base_language.specs.declared.grammar.Rule.TheVariants as rule_is
use Rattle.front_reader.proofs.FlawsInOrder.{or_none}
use Rattle.front_reader.specs.Pieces.{AreInText}
use Rattle.front_reader.proofs.TreesStandInText.{stand_behind}
use Rattle.base_language.proofs.MetaNames.{name_of-injective}
use Rattle.base_language.specs.Pieces.Saying.{piece}

pub quiet_quoted : (text : List ℕ) {us : Trees} → IsQuoted us → first_flaw text us ≡ None
unfolding own_flaw
quiet_quoted text in_quotes = refl
quiet_quoted text in_single_quotes = refl

-- the two literals of a range from i to j
pub record HoldsLiterals (text : List ℕ) (us : Trees) (a b e f : ℕ) (low high : Trees) : Type 0 where
  pub low_quoted : IsQuoted low
  pub high_quoted : IsQuoted high
  pub flaw : (i j : ℕ) → first_flaw text (Tree (codes "range") i j us None') ≡ option_or
      (wrong_literal text a b low) (wrong_literal text e f high)
  pub reads : (i j : ℕ) → Terminal text (codes "range") i j us (Range (literal_value text low) (literal_value text high))

pub range_trees : {text : List ℕ} {r s t : Text} {a b c d e f : ℕ} {us vs ws xs : Trees}
    → IsTerminal text (codes "range") (Tree r a b us (Tree s c d vs (Tree t e f ws xs)))
    → HoldsLiterals text (Tree r a b us (Tree s c d vs (Tree t e f ws xs))) a b e f us ws
unfolding own_flaw
range_trees {text} {a = a} {b = b} {e = e} {f = f} {us = us} {ws = ws} (range h k) = record {
  low_quoted = h;
  high_quoted = k;
  flaw = λ i j. rw (quiet_quoted text h, quiet_quoted text k, or_none (wrong_literal text e f ws), or_none) refl;
  reads = λ i j. reading.range;
}

-- a number of a slice that stands first
pub record NumberFirst (text : List ℕ) (i j : ℕ) (inner us : Trees) : Type 0 where
  pub digits : IsInteger text i j
  pub flaw : first_flaw text (Tree (codes "integer") i j inner us) ≡ option_or (past_i32 text i j)
      (first_flaw text us)
  pub takes : TakesNumber text (Tree (codes "integer") i j inner us) (Some (integer text i j)) us

pub number_first : {text : List ℕ} {i j : ℕ} {inner us : Trees}
    → MayBeNumber text (Tree (codes "integer") i j inner us) → NumberFirst text i j inner us
unfolding own_flaw
number_first (shape.a_number h) = record { digits = h; flaw = refl; takes = views.a_number }

pub no_number : {text : List ℕ} {n : Text} {i j : ℕ} {inner us : Trees} (r : Rule)
    → MayBeNumber text (Tree n i j inner us) → n ≡ name_of r → ¬ (r ≡ rule_is.integer)
    → TakesNumber text (Tree n i j inner us) None (Tree n i j inner us)
no_number r (shape.a_number h) e d = absurd (d (name_of-injective r rule_is.integer (sym e)))
no_number r shape.the_dots e d = views.the_dots
no_number r shape.the_end e d = views.the_end

-- the dots of a slice, and what ends it
pub data AtDots (text : List ℕ) : Trees → Type 0 where
  at_dots : {a b : ℕ} {us : Trees} → IsSliceEnd text us → AtDots text (Lone (codes "range_operator") a b us)

pub in_slice : {text : List ℕ} {r : Text} {a b : ℕ} {inner us : Trees} → IsSlice text (Tree r a b inner us)
    → IsSliceStart text us
in_slice (in_brackets h) = h

pub start_number : {text : List ℕ} {us : Trees} → IsSliceStart text us → MayBeNumber text us
start_number (shape.open_start h) = shape.the_dots
start_number (shape.from h k) = shape.a_number h

pub end_number : {text : List ℕ} {us : Trees} → IsSliceEnd text us → MayBeNumber text us
end_number shape.open_end = shape.the_end
end_number (shape.up_to h) = shape.a_number h

pub to_dots : {text : List ℕ} {us rest : Trees} {n : Option ℤ} → IsSliceStart text us
    → TakesNumber text us n rest → AtDots text rest
to_dots (shape.open_start h) views.the_dots = at_dots h
to_dots (shape.from h k) views.a_number = at_dots k

pub no_dots : {text : List ℕ} → AtDots text None' → ⊥
no_dots h = elim h [ ]

pub behind_dots : {text : List ℕ} {r : Text} {a b : ℕ} {inner us : Trees} → AtDots text (Tree r a b inner us)
    → IsSliceEnd text us
behind_dots (at_dots h) = h

pub dots_flaw : {text : List ℕ} {r : Text} {a b : ℕ} {inner us : Trees} → AtDots text (Tree r a b inner us)
    → first_flaw text (Tree r a b inner us) ≡ first_flaw text us
unfolding own_flaw
dots_flaw (at_dots h) = refl

pub end_flaw : {text : List ℕ} {us rest : Trees} {n : Option ℤ} → IsSliceEnd text us
    → TakesNumber text us n rest → first_flaw text rest ≡ None
unfolding own_flaw
end_flaw shape.open_end views.the_end = refl
end_flaw (shape.up_to h) views.a_number = refl

pub slice_flaw : {text : List ℕ} {r : Text} {a b : ℕ} {inner us : Trees} (i j : ℕ)
    → IsSlice text (Tree r a b inner us)
    → first_flaw text (Tree (codes "peek_slice") i j (Tree r a b inner us) None') ≡ first_flaw text us
unfolding own_flaw
slice_flaw {text} {us = us} i j (in_brackets h) = or_none (first_flaw text us)

pub slice_reads : {text : List ℕ} {a b c d : ℕ} {r s : Text}
    {us vs ws xs rest : Trees} {low high : Option ℤ} (i j : ℕ)
    → IsSlice text (Tree r a b vs us) → TakesNumber text us low (Tree s c d ws xs)
    → TakesNumber text xs high rest
    → Terminal text (codes "peek_slice") i j (Tree r a b vs us) (PeekSlice (unwrap_or low (pos 0)) high)
slice_reads i j (in_brackets (shape.open_start shape.open_end)) views.the_dots views.the_end = reading.slice
slice_reads i j (in_brackets (shape.open_start (shape.up_to h))) views.the_dots views.a_number = reading.slice_to
slice_reads i j (in_brackets (shape.from h shape.open_end)) views.a_number views.the_end = reading.slice_from
slice_reads i j (in_brackets (shape.from h (shape.up_to k))) views.a_number views.a_number = reading.slice_between

pub takes_standing : {text : List ℕ} {us rest : Trees} {n : Option ℤ} → AreInText text us
    → TakesNumber text us n rest → AreInText text rest
takes_standing h views.a_number = stand_behind h
takes_standing h views.the_dots = h
takes_standing h views.the_end = h

-- the flaw of a literal's node, and what it reads as
pub record IsLiteral (text : List ℕ) (r : Text) (us inner : Trees) (f : Text → Expression) : Type 0 where
  pub quoted : IsQuoted inner
  pub flaw : (i j : ℕ) → first_flaw text (Tree r i j us None') ≡ wrong_literal text i j inner
  pub reads : (i j : ℕ) → Terminal text r i j us (f (literal_value text inner))

pub string_trees : {text : List ℕ} {us : Trees} → IsTerminal text (codes "string") us
    → IsLiteral text (codes "string") us us Str
unfolding own_flaw
string_trees {text} {us} (string h) = record {
  quoted = h;
  flaw = λ i j. rw (quiet_quoted text h) (or_none (wrong_literal text i j us));
  reads = λ i j. reading.string;
}

wrong_twice : (b : Bool) (f g : Flaw) → option_or (if b then Some f else None)
    (option_or (option_or (if b then Some g else None) None) None) ≡ (if b then Some f else None)
wrong_twice true f g = refl
wrong_twice false f g = refl

-- the literal of an insensitive string has the flaw of the whole, and so does the string in it, behind it
pub insensitive_trees : {text : List ℕ} {r : Text} {a b : ℕ} {us vs : Trees}
    → IsTerminal text (codes "insensitive_string") (Tree r a b us vs)
    → IsLiteral text (codes "insensitive_string") (Tree r a b us vs) us Insens
unfolding own_flaw
insensitive_trees {text} {a = a} {b = b} {us = us} (insensitive h) = record {
  quoted = h;
  flaw = λ i j. rw (quiet_quoted text h) (wrong_twice (not (all_scalars (literal_value text us))) _ _);
  reads = λ i j. reading.insensitive;
}

pub identifier_trees : {text : List ℕ} {us : Trees} (i j : ℕ) → IsTerminal text (codes "identifier") us
    → first_flaw text (Tree (codes "identifier") i j us None') ≡ None
unfolding own_flaw
identifier_trees i j identifier = refl

-- the string of a literal push
pub record HoldsString (text : List ℕ) (us : Trees) (k l : ℕ) (inner : Trees) : Type 0 where
  pub quoted : IsQuoted inner
  pub flaw : (i j : ℕ) → first_flaw text (Tree (codes "_push_literal") i j us None') ≡ wrong_literal text k l inner
  pub reads : (i j : ℕ) → Reads text ANode (Tree (codes "_push_literal") i j us None')
      (Leaf (piece text k l) (PushLiteral (literal_value text inner)))

pub push_literal_trees : {text : List ℕ} {r s : Text} {a b k l : ℕ} {vs inner ws : Trees}
    → IsTerminal text (codes "_push_literal") (Tree r a b vs (Tree s k l inner ws))
    → HoldsString text (Tree r a b vs (Tree s k l inner ws)) k l inner
unfolding own_flaw
push_literal_trees {text} {k = k} {l = l} {inner = inner} (push_literal h) = record {
  quoted = h;
  flaw = λ i j. rw (quiet_quoted text h, or_none (wrong_literal text k l inner), or_none) refl;
  reads = λ i j. reading.literally_pushed;
}

-- a terminal's rule is one of six
pub terminal_rule : {text : List ℕ} {n : Text} {us : Trees} (r : Rule) → IsTerminal text n us → n ≡ name_of r
    → ¬ (r ≡ rule_is.identifier) → ¬ (r ≡ rule_is.string) → ¬ (r ≡ rule_is.insensitive_string)
    → ¬ (r ≡ rule_is.range) → ¬ (r ≡ rule_is.peek_slice) → ¬ (r ≡ rule_is._push_literal) → ⊥
terminal_rule r identifier e a b c d f g = a (name_of-injective r rule_is.identifier (sym e))
terminal_rule r (string h) e a b c d f g = b (name_of-injective r rule_is.string (sym e))
terminal_rule r (insensitive h) e a b c d f g = c (name_of-injective r rule_is.insensitive_string (sym e))
terminal_rule r (range h k) e a b c d f g = d (name_of-injective r rule_is.range (sym e))
terminal_rule r (slice h) e a b c d f g = f (name_of-injective r rule_is.peek_slice (sym e))
terminal_rule r (push_literal h) e a b c d f g = g (name_of-injective r rule_is._push_literal (sym e))
