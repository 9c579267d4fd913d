use Rattle.std.proofs.lemmas.Result.{on_ok_weaker}
use Rattle.pest_fmt.proofs.Gaining.{gain_file, gain_folder}
use Rattle.pest_fmt.proofs.sources.add_named.Goals as goal

pub returns-then-is_folder : goal.returns-then-is_folder
returns-then-is_folder c =
    on_ok_weaker c.add_folder.result (gain_folder c.args.name.now _ _) c.add_folder.ensures

pub returns : goal.returns
returns c = gain_file c.args.name.now _ _ _ c.in_ok-push.ensures.items c.in_ok-from_str.ensures.ok
