use Rattle.std.proofs.Common.{All}
use Rattle.program_support.specs.Folders.{IsGrammarName}
use Rattle.program_support.proofs.folders.read_folder.Given as goal

abbrev pub invariant-loop : goal.invariant-loop
invariant-loop l = All IsGrammarName l.grammars.items
