-- The input of a search for a trail.
use Rattle.front_analysis.specs.Facts.{AreFacts}
use Rattle.front_validator.specs.Regions.{ArePassing}
use Rattle.front_validator.specs.declared.recursions.Guide.{Guide}

-- the facts and the nodes to pass are those of the rules
pub record IsGuide (guide : Guide) : Type 0 where
  pub facts : AreFacts guide.rules.now guide.facts.now
  pub passing : ArePassing guide.rules.now guide.facts.now.table.roots.items guide.passing.now
