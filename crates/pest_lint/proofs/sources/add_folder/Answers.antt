use Rattle.std.proofs.Common.{All, subst, sym}
use Rattle.std.proofs.lemmas.Result.{on_ok_weaker}
use Rattle.program_support.specs.Folders.{IsGrammarName}
use Rattle.pest_lint.specs.Sources.{IsOfFolder}
use Rattle.pest_lint.proofs.Gaining.{gain_more}
use Rattle.pest_lint.proofs.sources.add_folder.Goals as goal

pub read_files-requires : goal.read_files-requires
read_files-requires c = subst (All IsGrammarName) (sym c.deref.ensures.value) c.in_ok-folder.ensures

pub returns : goal.returns
returns c =
    on_ok_weaker c.read_files.result (gain_more IsOfFolder _ _ _ c.in_ok-add_unread.ensures) c.read_files.ensures
