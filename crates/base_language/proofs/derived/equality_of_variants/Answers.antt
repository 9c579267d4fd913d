use Rattle.base_language.proofs.derived.equality_of_variants.Goals as goal
use Rattle.base_language.proofs.Comparisons.{same_variant}

pub returns : goal.returns
returns c = same_variant
