use Rattle.std.proofs.Common.{refl}
use Rattle.base_language.specs.Language.Builtins.{property_names, general_categories, binary_properties, scripts}
use Rattle.front_names.proofs.tables.unicode_property_names.Goals as goal

pub returns : goal.returns
unfolding property_names general_categories binary_properties scripts
returns c = refl
