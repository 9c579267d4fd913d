use Rattle.base_language.proofs.laws.terminates.Goals as goal
use Rattle.base_language.proofs.Termination.{ends}
use Rattle.base_language.proofs.OneOutcome.{same}

pub returns : goal.returns
returns c = λ g classes start counted formed plain.
    let d = ends g classes start.name start.rule start.mode start.state counted formed plain start.defined in
    (d.0, d.1, λ p e. same g classes e d.1)
