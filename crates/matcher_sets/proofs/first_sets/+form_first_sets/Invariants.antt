use Rattle.std.proofs.Common.{◌+◌, ◌*◌}
use Rattle.matcher_sets.proofs.first_sets.+form_first_sets.Given as goal

abbrev pub decreases-alternatives_first_set : goal.decreases-alternatives_first_set
decreases-alternatives_first_set l = 2 * l.depth + 1

abbrev pub decreases-parts_first_set : goal.decreases-parts_first_set
decreases-parts_first_set l = 2 * l.depth + 1

abbrev pub decreases-optional_first_set : goal.decreases-optional_first_set
decreases-optional_first_set l = 2 * l.depth + 1

abbrev pub decreases-repeated_first_set : goal.decreases-repeated_first_set
decreases-repeated_first_set l = 2 * l.depth + 1

abbrev pub decreases-spared_first_set : goal.decreases-spared_first_set
decreases-spared_first_set l = 2 * l.depth + 1

abbrev pub decreases-wrapped_first_set : goal.decreases-wrapped_first_set
decreases-wrapped_first_set l = 2 * l.depth + 1

abbrev pub decreases-form_first_set : goal.decreases-form_first_set
decreases-form_first_set l = 2 * l.depth
