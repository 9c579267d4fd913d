use Rattle.lint_hints.proofs.properties.is_pest_property.Goals as goal

pub returns : goal.returns
returns c = rw c.pest_properties.ensures at c.is_among.ensures
