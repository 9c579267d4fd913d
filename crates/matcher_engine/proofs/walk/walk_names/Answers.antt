use Rattle.matcher_program.specs.ExpectedNames.{name_texts}
use Rattle.matcher_engine.proofs.Walking.{walk_of_names}
use Rattle.matcher_engine.proofs.walk.walk_names.Goals as goal

pub returns : goal.returns
returns c = λ g same n s classes x.
    let w = walk_of_names g (name_texts c.args.names.now) same n s classes c.args.found.now x in
    rw (c.deref.ensures.value, c.new.ensures.items) w
