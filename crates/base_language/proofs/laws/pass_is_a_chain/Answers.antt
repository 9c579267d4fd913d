use Rattle.base_language.proofs.laws.pass_is_a_chain.Goals as goal
use Rattle.base_language.proofs.PassesAreChains.{pass}

pub returns : goal.returns
returns c = λ g h i d e. pass d e
