-- The bounds of ranges that are read are one character each, and stay so.
use Rattle.std.proofs.Common.{◌≡◌, ℕ, List, length, sym, subst}
use Rattle.std.specs.Str.{IsUtf8}
use Rattle.base_language.specs.Language.Text.{Text}
use Rattle.base_language.specs.Language.Expression.{Expression, Grammar, Range}
use Rattle.base_language.specs.Language.State.{Trees, None', Tree, joined}
use Rattle.base_language.specs.Rewritings.Rewriting.{Chain, EachBody}
use Rattle.base_language.proofs.ListingKeepsGrammars.{Finished}
use Rattle.front_spanned.specs.Erasure.{round, between}
use Rattle.front_spanned.specs.Spanned.{Unary, Binary, Seq, Choice}
use Rattle.front_grammar.specs.MetaGrammar.{body_of}
use Rattle.base_language.specs.declared.grammar.Rule.TheVariants as is
use Rattle.front_grammar.proofs.Naming.{rule_named}
use Rattle.front_grammar.proofs.Yields.{Yields, both, lone}
use Rattle.front_reader.specs.Reading as reading
use Rattle.front_reader.specs.Reading.{Postfix, Terminal, literal_value}
use Rattle.front_reader.proofs.ReadParts.{IsHandedDown, IsGiven, parts_so}
use Rattle.pest_meta.proofs.CharacterTrees.{HoldCharacters, characters_hold}
use Rattle.pest_meta.proofs.NothingNew.{HasNothingNew, kept_by_all, stands_in}
use Rattle.base_language.specs.Language.CharacterBounds.{HasCharacterBounds}
use Rattle.pest_meta.specs.Spelling.{AreReadAsRules, HasTrees}

-- 1. where they are read
abbrev BoundsAreCharacters : Expression → Type 0
BoundsAreCharacters (Range t u) = (length t ≡ 1) × (length u ≡ 1)
BoundsAreCharacters _ = Unit {0}

module _ (text : List ℕ) where
  in_front : (us vs : Trees) → HoldCharacters text (joined us vs) → HoldCharacters text us
  in_front None' vs h = tt
  in_front (Tree r i j inner us) vs h = (h.0, h.1, in_front us vs h.2)

  handed_down : IsHandedDown (HoldCharacters text)
  handed_down = record {
    inner = λ r i j us vs h. h.1;
    behind = λ r i j us vs h. h.2;
    front = λ us vs c h. in_front us vs h;
  }

  one_character : (us : Trees) → Yields text (body_of is.character) us → HoldCharacters text us → length (literal_value text us) ≡ 1
  unfolding rule_named
  one_character us (both (both lone lone) lone) h = h.2.0

  terminal_bounds : {r : Text} {i j : ℕ} {us : Trees} {e : Expression} (vs : Trees)
      → Terminal text r i j us e → HoldCharacters text (Tree r i j us vs) → BoundsAreCharacters e
  unfolding rule_named
  terminal_bounds vs reading.identifier h = tt
  terminal_bounds vs reading.string h = tt
  terminal_bounds vs reading.insensitive h = tt
  terminal_bounds vs (reading.range {us = low} {vs = high}) h =
      (one_character low h.1.0 h.1.1, one_character high h.1.2.2.0 h.1.2.2.1)
  terminal_bounds vs reading.slice h = tt
  terminal_bounds vs reading.slice_from h = tt
  terminal_bounds vs reading.slice_to h = tt
  terminal_bounds vs reading.slice_between h = tt

  postfix_bounds : {r : Text} {us : Trees} {f : Unary} → Postfix text r us f → (e : Expression) → BoundsAreCharacters (round f e)
  postfix_bounds reading.opt e = tt
  postfix_bounds reading.rep e = tt
  postfix_bounds reading.rep_once e = tt
  postfix_bounds reading.exact e = tt
  postfix_bounds reading.min e = tt
  postfix_bounds reading.max e = tt
  postfix_bounds reading.min_max e = tt

  between_bounds : (f : Binary) (a b : Expression) → BoundsAreCharacters (between f a b)
  between_bounds Seq a b = tt
  between_bounds Choice a b = tt

  bounds_given : IsGiven text (HoldCharacters text) BoundsAreCharacters
  bounds_given = record {
    terminal = λ vs t h. terminal_bounds vs t h;
    postfix = λ p h e. postfix_bounds p e;
    positive = λ e. tt;
    negative = λ e. tt;
    push = λ e. tt;
    literal_push = λ vs h. tt;
    tag = λ us h e. tt;
    between_two = between_bounds;
  }

pub read_bounds : (text : List ℕ) (utf8 : IsUtf8 text) (trees : Trees) (rules : Grammar) → HasTrees text trees → AreReadAsRules text trees rules → HasCharacterBounds rules
read_bounds text utf8 trees rules h give =
    let hold = characters_hold text utf8 trees h in
    subst HasCharacterBounds (sym give.same)
    (λ t u i. parts_so text (HoldCharacters text) BoundsAreCharacters (handed_down text) (bounds_given text) give.reads hold (Range t u) i)

-- 2. along changes that bring in no range
pub bounds_on : (g h : Grammar) → EachBody HasNothingNew g h → HasCharacterBounds g → HasCharacterBounds h
bounds_on g h e b t u i = b t u (stands_in g h e (Range t u) tt i)

pub answer_bounds : (g reached answer : Grammar) → Chain g reached → Finished reached answer → HasCharacterBounds g → HasCharacterBounds answer
answer_bounds g reached answer c f b = kept_by_all HasCharacterBounds bounds_on g reached answer c f b
