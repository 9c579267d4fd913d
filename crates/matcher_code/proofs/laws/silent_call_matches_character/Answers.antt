use Rattle.matcher_code.proofs.Characters.{silent_call_of_set}
use Rattle.matcher_code.proofs.laws.silent_call_matches_character.Goals as goal

pub returns : goal.returns
returns c = λ g classes m x r f h e d. silent_call_of_set g classes m x r f h e d
