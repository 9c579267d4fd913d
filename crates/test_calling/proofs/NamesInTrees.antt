-- In the trees of a text, each identifier is a text without `#`.
use Rattle.std.proofs.Common.{ℕ, List, Option, Some, chars, codes}
use Rattle.std.specs.Str.{IsUtf8}
use Rattle.base_language.specs.Language.State.{State, Mode, Trees, None', Success}
use Rattle.base_language.specs.Language.Meaning.{Does, Run, body_mode}
use Rattle.base_language.specs.Language.Places.{IsStateIn}
use Rattle.base_language.specs.declared.grammar.Rule.{Rule}
use Rattle.base_language.specs.declared.grammar.Rule.TheVariants as is
use Rattle.front_grammar.specs.MetaGrammar.{meta_grammar, rule_at, body_of}
use Rattle.front_grammar.proofs.Naming.{rule_named}
use Rattle.front_reader.specs.Reading.{characters_between}
use Rattle.pest_meta.proofs.HeldTrees.{HoldEach, trees_hold}
use Rattle.pest_meta.proofs.Spelled.{empty_classes}
use Rattle.pest_meta.specs.Spelling.{HasTrees}
use Rattle.test_calling.proofs.IdentifierWords.{IsUnmarked, unmarked_between}

-- what holds of a rule's tree, from one position to another, with these trees in it
abbrev pub HoldsOf : List ℕ → Option Rule → ℕ → ℕ → Trees → Type 0
HoldsOf text (Some is.identifier) i j us = IsUnmarked (characters_between text i j)
HoldsOf text _ i j us = Unit {0}

abbrev pub HoldNames : List ℕ → Trees → Type 0
HoldNames text us = HoldEach (HoldsOf text) us

module _ (text : List ℕ) (utf8 : IsUtf8 text) where
  at_end : (i : ℕ) → HoldsOf text (rule_named (codes "EOI")) i i None'
  unfolding rule_named
  at_end i = tt

  of_rule : (r : Rule) (m : Mode) (s t : State) (us : Trees) → IsStateIn (chars text) s → Does meta_grammar empty_classes (Run (body_mode (rule_at r) m) (body_of r)) s (Success t us)
      → HoldsOf text (Some r) s.position t.position us
  of_rule is.identifier m s t us w d = unmarked_between text utf8 s t w empty_classes m us d
  of_rule _ m s t us w d = tt

  pub names_hold : (us : Trees) → HasTrees text us → HoldNames text us
  names_hold us h = trees_hold (HoldsOf text) at_end text of_rule us h
