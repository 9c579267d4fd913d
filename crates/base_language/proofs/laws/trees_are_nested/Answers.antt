use Rattle.base_language.proofs.TreesAreNested.{fits}
use Rattle.base_language.proofs.laws.trees_are_nested.Goals as goal

pub returns : goal.returns
returns c = λ text g classes k s o d h. fits text d h
