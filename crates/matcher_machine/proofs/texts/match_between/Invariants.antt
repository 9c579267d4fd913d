use Rattle.matcher_code.specs.Bytecodes.{lists_in}
use Rattle.std.proofs.Common.{◌≡◌, ◌≤◌, ◌+◌, ◌-◌, drop, length, map, reverse, take}
use Rattle.base_language.specs.Language.Matching.{concatenated}
use Rattle.matcher_machine.specs.Stacks.{bytes_of, length_if}
use Rattle.matcher_machine.proofs.Stacking.{more}
use Rattle.matcher_machine.proofs.texts.match_between.Given as goal

abbrev pub invariant-loop-index : goal.invariant-loop-index
invariant-loop-index l = record {
  small : l.size ≤ length l.text - l.at;
  left : length_if (concatenated (take (l.end - l.start) (drop l.start (reverse (map (bytes_of (lists_in l.code) l.text) l.texts))))) (drop l.at l.text)
      ≡ more l.size (length_if (concatenated (take (l.end - l.index) (drop l.index (reverse (map (bytes_of (lists_in l.code) l.text) l.texts))))) (drop (l.at + l.size) l.text));
}
