use Rattle.std.proofs.Common.{rules}
use Rattle.std.proofs.lemmas.Str.{encodes-chars}
use Rattle.pest_run.proofs.rule_names.is_near_text.Goals as goal

pub returns : goal.returns
returns c = rw (encodes-chars c.args.other.now c.utf8.other) (search rules)
