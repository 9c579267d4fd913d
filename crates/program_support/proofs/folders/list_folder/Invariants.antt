use Rattle.std.proofs.Common.{All}
use Rattle.program_support.specs.Folders.{IsGrammarName}
use Rattle.program_support.proofs.folders.list_folder.Given as goal

abbrev pub invariant-loop-entry : goal.invariant-loop-entry
invariant-loop-entry l = record {
  can_next : (goal.iterator-loop-entry).can_next l.entry-iterator;
  is_finite : (goal.iterator-loop-entry).is_finite l.entry-iterator;
  named : All IsGrammarName l.fn.files.items
      → All IsGrammarName l.files.items;
}
