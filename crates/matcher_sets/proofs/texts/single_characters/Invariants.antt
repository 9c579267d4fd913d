use Rattle.matcher_code.specs.Lists.{is_covered}
use Rattle.std.proofs.Common.{◌≡◌, ◌<◌, ◌∷◌, ℕ, map, take}
use Rattle.base_ast.specs.Ast.{text_of}
use Rattle.base_language.specs.Language.Matching.{any_begins}
use Rattle.base_language.specs.Language.Text.{Text}
use Rattle.matcher_sets.proofs.texts.single_characters.Given as goal

abbrev pub invariant-loop-text : goal.invariant-loop-text
invariant-loop-text l = (c : ℕ) (u : Text) → c < 1114112
    → any_begins (map text_of (take l.text-index l.texts.items)) (c ∷ u) ≡ is_covered l.ranges.items c
