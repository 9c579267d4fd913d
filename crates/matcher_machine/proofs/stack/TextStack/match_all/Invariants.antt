use Rattle.matcher_code.specs.Bytecodes.{lists_in}
use Rattle.std.proofs.Common.{◌≡◌, ◌≤◌, ◌+◌, ◌-◌, drop, length}
use Rattle.base_language.specs.Language.Matching.{concatenated}
use Rattle.matcher_machine.specs.Stacks.{length_if, texts_at, texts_in}
use Rattle.matcher_machine.proofs.Stacking.{more}
use Rattle.matcher_machine.proofs.stack.TextStack.match_all.Given as goal

abbrev pub invariant-loop-pushed : goal.invariant-loop-pushed
invariant-loop-pushed l = record {
  within : l.number ≤ length l.self.pushed.items;
  small : l.size ≤ length l.text - l.at;
  left : length_if (concatenated (texts_in (lists_in l.code) l.text l.self)) (drop l.at l.text)
      ≡ more l.size (length_if (concatenated (texts_at (lists_in l.code) l.text l.self l.number)) (drop (l.at + l.size) l.text));
}

abbrev pub decreases-loop-pushed : goal.decreases-loop-pushed
decreases-loop-pushed l = l.number
