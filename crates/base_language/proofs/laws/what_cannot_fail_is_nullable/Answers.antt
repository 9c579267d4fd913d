use Rattle.base_language.proofs.CannotFailIsNullable.{nullable_of}
use Rattle.base_language.proofs.laws.what_cannot_fail_is_nullable.Goals as goal

pub returns : goal.returns
returns c = λ g e d. nullable_of g d
