use Rattle.std.proofs.Common.{◌≡◌, ◌<◌, List, length, map, take}
use Rattle.std.specs.List.{All}
use Rattle.base_language.specs.Pieces.Saying.{piece_of}
use Rattle.doc_pages.specs.Warnings.{AllSaid, AreWarnings, KeepsWarnings, Warns}
use Rattle.front_spanned.specs.Spanned.{SpannedRule}
use Rattle.doc_pages.proofs.warnings.add_warnings.Given as goal

abbrev pub invariant-loop-part : goal.invariant-loop-part
invariant-loop-part l = record {
  alike : length l.warnings.items ≡ length l.fn.warnings.items;
  definite : (rules : List SpannedRule) → AllSaid l.code (map piece_of l.parts) rules
      → AreWarnings rules l.fn.warnings.items → AreWarnings rules l.warnings.items;
  kept : KeepsWarnings l.fn.warnings.items l.warnings.items;
  added : 0 < length l.sources → length l.fn.warnings.items ≡ length l.sources
      → All (Warns l.warnings.items l.code) (map piece_of (take l.part-index l.parts));
}
