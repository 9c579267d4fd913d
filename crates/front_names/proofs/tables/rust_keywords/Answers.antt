use Rattle.std.proofs.Common.{refl}
use Rattle.front_names.specs.Names.{rust_keywords}
use Rattle.front_names.proofs.tables.rust_keywords.Goals as goal

pub returns : goal.returns
unfolding rust_keywords
returns c = refl
