-- The outcomes of the rules of the meta-grammar on texts.
use Rattle.std.specs.Prelude.{List, [], ℕ, chars}
use Rattle.base_language.specs.Language.Expression.{Ident}
use Rattle.base_language.specs.Language.Meaning.{Matches}
use Rattle.base_language.specs.Language.State.{Classes, NonAtomicMode, Outcome, State, Success, Trees}
use Rattle.base_language.specs.Pieces.MetaRules.{name_of}
use Rattle.base_language.specs.declared.grammar.Rule.{Rule}
use Rattle.front_grammar.specs.MetaGrammar.{meta_grammar}

-- the start of a text, with the empty stack
abbrev pub start_of : List ℕ → State
start_of text = record { position = 0; rest = chars text; stack = [] }

-- the rule, called in NonAtomic at the start of the text, has this outcome
abbrev pub Recognizes : Rule → List ℕ → Classes → Outcome → Type 0
Recognizes rule text classes o =
    Matches meta_grammar classes (Ident (name_of rule)) NonAtomicMode (start_of text) o

-- the text spells these trees for the rule, whatever the classes are
abbrev pub Spells : Rule → List ℕ → Trees → Type 0
Spells rule text us = (classes : Classes) → (t : State) × Recognizes rule text classes (Success t us)
