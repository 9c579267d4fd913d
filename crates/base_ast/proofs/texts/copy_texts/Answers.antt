use Rattle.std.proofs.Common.{ap}
use Rattle.std.specs.Str.{chars}
use Rattle.base_ast.proofs.Characters.{copied_texts}
use Rattle.base_ast.proofs.texts.copy_texts.Goals as goal

pub returns : goal.returns
returns c = copied_texts _ (λ s t e. ap chars e) _ _ c.in_ok-clone.ensures.cases.0
