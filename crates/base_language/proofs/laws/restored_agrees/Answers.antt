use Rattle.base_language.proofs.laws.restored_agrees.Goals as goal
use Rattle.base_language.proofs.BothMeaningsAgree.{same_endings}

pub returns : goal.returns
returns c = same_endings
