use Rattle.pest_fmt.proofs.sources.add_folder.Goals as goal

pub returns : goal.returns
returns c = (_, c.in_ok-append.ensures.items, c.in_ok-folder.ensures)
