use Rattle.std.proofs.Common.{map, take}
use Rattle.base_ast.specs.Ast.{text_of}
use Rattle.matcher_code.specs.Laid.{StartIn}
use Rattle.matcher_sets.proofs.texts.first_characters.Given as goal

abbrev pub invariant-loop-text : goal.invariant-loop-text
invariant-loop-text l = StartIn l.ranges.items (map text_of (take l.text-index l.texts.items))
