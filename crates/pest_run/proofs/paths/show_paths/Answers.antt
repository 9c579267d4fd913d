use Rattle.pest_run.proofs.paths.show_paths.Goals as goal

pub returns-in-Json : goal.returns-in-Json
returns-in-Json c = rw c.in-Json.is (c.show_json.ensures c.args.text.now)
