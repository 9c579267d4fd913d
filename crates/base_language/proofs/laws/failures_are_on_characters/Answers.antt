use Rattle.base_language.proofs.FailuresStand.{stands_at}
use Rattle.base_language.proofs.laws.failures_are_on_characters.Goals as goal

pub returns : goal.returns
returns c = λ text g classes k s o d h. stands_at text d h
