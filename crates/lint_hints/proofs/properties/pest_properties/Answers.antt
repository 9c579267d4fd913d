use Rattle.std.proofs.Common.{refl}
use Rattle.lint_hints.specs.Properties.{pest_properties}
use Rattle.lint_hints.proofs.properties.pest_properties.Goals as goal

pub returns : goal.returns
unfolding pest_properties
returns c = refl
