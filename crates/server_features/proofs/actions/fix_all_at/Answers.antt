use Rattle.std.proofs.Common.{rules, string_bytes}
use Rattle.server_features.specs.Actions.FixesAll.{fixes}
use Rattle.server_features.proofs.actions.fix_all_at.Goals as goal

pub returns : goal.returns
returns c = fixes (string_bytes c.in_ok-mended.mended.text) (search rules) (search rules)
