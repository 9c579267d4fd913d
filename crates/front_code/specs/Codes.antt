-- Constant programs of the meta-grammar.
use Rattle.std.specs.Prelude.{◌≡◌, ◌<◌, ◌+◌, ℕ, List, [], Bool, get_or, length, map}
use Rattle.base_language.specs.Language.Expression.{Ident}
use Rattle.base_language.specs.Language.Meaning.{Run}
use Rattle.base_language.specs.Language.State.{Classes, NonAtomicMode}
use Rattle.base_language.specs.Pieces.MetaRules.{name_of}
use Rattle.base_language.specs.declared.grammar.Rule.{Rule}
use Rattle.front_grammar.specs.MetaGrammar.{meta_grammar}
use Rattle.matcher_code.specs.Lists.{CodeLists}
use Rattle.matcher_code.specs.declared.code.Op.{Op}
use Rattle.matcher_code.specs.declared.code.Op.TheVariants as op
use Rattle.matcher_code.specs.Laid.{AreLaid, IsPoint, Point, at_label}
use Rattle.matcher_code.specs.Operations.{op_in}
use Rattle.matcher_code.specs.Sets.{IsSetOf}
use Rattle.matcher_code.specs.Words.{pair_in, parts_in, word}
use Rattle.front_code.specs.Numbers.{number_of}
use Rattle.front_code.specs.declared.constants.TheConstants.{EXACT_BYTES, EXACT_RANGES, EXACT_SET_PLACES, FAST_BYTES, FAST_RANGES, FAST_SET_PLACES, TEXT_BYTES, TEXT_PLACES}

-- a program has these operations and texts, and sets of these ranges
pub record HasParts (os : List Op) (ts : List (List ℕ)) (rs : List (List (ℕ × ℕ))) (code : CodeLists)
    : Type 0 where
  pub ops : code.ops ≡ os
  pub texts : code.texts ≡ ts
  pub sets : (i : ℕ) → i < length rs → IsSetOf code i (get_or rs i [])

-- the texts of both programs
abbrev pub texts : List (List ℕ)
texts = parts_in (map word TEXT_PLACES) TEXT_BYTES.now

-- the operations of each, and the ranges of its sets
abbrev pub exact_ops : List Op
exact_ops = map op_in EXACT_BYTES

abbrev pub exact_sets : List (List (ℕ × ℕ))
exact_sets = parts_in (map word EXACT_SET_PLACES) (map pair_in EXACT_RANGES)

abbrev pub IsExactCode : CodeLists → Type 0
IsExactCode code = HasParts exact_ops texts exact_sets code

abbrev pub fast_ops : List Op
fast_ops = map op_in FAST_BYTES

abbrev pub fast_sets : List (List (ℕ × ℕ))
fast_sets = parts_in (map word FAST_SET_PLACES) (map pair_in FAST_RANGES)

abbrev pub IsFastCode : CodeLists → Type 0
IsFastCode code = HasParts fast_ops texts fast_sets code

-- a program has the code of all rules of the meta-grammar, and a call of each from outside begins at the
-- label after three more than its number; exact code records each name that is expected
pub record IsCodeOfMetaGrammar (exact : Bool) (classes : Classes) (code : CodeLists) : Type 0 where
  pub fail : at_label code 0 ≡ op.Fail
  pub halt : at_label code 1 ≡ op.Halt
  pub lose : at_label code 2 ≡ op.Lose
  pub points : List Point
  pub laid : AreLaid exact meta_grammar classes code number_of points
  pub entries : (r : Rule)
      → IsPoint points (Run NonAtomicMode (Ident (name_of r))) (number_of (name_of r) + 3) 1 2
