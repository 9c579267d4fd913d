use Rattle.std.proofs.Common.{refl}
use Rattle.pest_meta.proofs.laws.tags_are_tag_ids.Goals as goal
use Rattle.pest_meta.proofs.Tags.{tags_are_tag_ids}

pub returns-clause-takes : goal.returns-clause-takes
returns-clause-takes c = tags_are_tag_ids

pub returns-clause-may_begin_with_push : goal.returns-clause-may_begin_with_push
returns-clause-may_begin_with_push c = (refl, refl)
