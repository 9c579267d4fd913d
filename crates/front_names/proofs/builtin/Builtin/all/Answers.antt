use Rattle.std.proofs.Common.{refl}
use Rattle.base_language.specs.Language.Builtins.{builtins}
use Rattle.front_names.proofs.builtin.Builtin.all.Goals as goal

pub returns : goal.returns
unfolding builtins
returns c = refl
