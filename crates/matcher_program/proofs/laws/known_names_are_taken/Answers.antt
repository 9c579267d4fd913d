use Rattle.matcher_program.proofs.Refusing.{no_unknown}
use Rattle.matcher_program.proofs.laws.known_names_are_taken.Goals as goal

pub returns : goal.returns
returns c = no_unknown
