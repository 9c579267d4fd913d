use Rattle.std.proofs.Common.{◌≡◌, ◌≤◌, ◌++◌, List, ℕ, length, map}
use Rattle.matcher_code.specs.Lists.{CodeLists}
use Rattle.matcher_machine.specs.Stacks.{bytes_of, texts_at, texts_in}
use Rattle.matcher_machine.proofs.stack.TextStack.texts.Given as goal

abbrev pub invariant-loop-pushed : goal.invariant-loop-pushed
invariant-loop-pushed l = record {
  within : l.number ≤ length l.self.pushed.items;
  left : (code : CodeLists) (text : List ℕ)
      → map (bytes_of code text) l.texts.items ++ texts_at code text l.self l.number ≡ texts_in code text l.self;
}

abbrev pub decreases-loop-pushed : goal.decreases-loop-pushed
decreases-loop-pushed l = l.number
