use Rattle.std.proofs.Common.{refl}
use Rattle.base_language.specs.Language.Grammar.{keywords}
use Rattle.front_names.proofs.tables.pest_keywords.Goals as goal

pub returns : goal.returns
unfolding keywords
returns c = refl
