use Rattle.std.proofs.Common.{All, subst, sym}
use Rattle.std.proofs.lemmas.List.Elements.{All-nil}
use Rattle.std.proofs.lemmas.List.Sorted.{All-permutation}
use Rattle.program_support.specs.Folders.{IsGrammarName}
use Rattle.program_support.proofs.folders.read_folder.Goals as goal

pub loop-init : goal.loop-init
loop-init c = subst (All IsGrammarName) (sym c.new-grammars.ensures.items) (All-nil IsGrammarName)

pub loop-preserved : goal.loop-preserved
loop-preserved c = c.list_folder.ensures c.loop.invariant

pub returns : goal.returns
returns c = All-permutation IsGrammarName _ _ c.in_ok-sort.ensures.permutation c.loop.invariant
