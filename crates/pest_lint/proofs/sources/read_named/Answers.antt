use Rattle.std.proofs.lemmas.Result.{on_ok_weaker}
use Rattle.pest_lint.proofs.Gaining.{gain_file, gain_folder}
use Rattle.pest_lint.proofs.sources.read_named.Goals as goal

pub returns-then-is_folder : goal.returns-then-is_folder
returns-then-is_folder c =
    on_ok_weaker c.add_folder.result (gain_folder c.args.name.now _ _) c.add_folder.ensures

pub returns : goal.returns
returns c = gain_file c.args.name.now _ _ _ c.in_ok-push.ensures.items c.in_ok-read_source.ensures
