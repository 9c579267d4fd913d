use Rattle.std.proofs.Common.{rules}
use Rattle.lint_output.proofs.github.push_property_part.Goals as goal

pub returns-in-58 : goal.returns-in-58
unfolding lib.Utf8.encode
returns-in-58 c = rw c.in-58.is (search rules)

pub returns-in-44 : goal.returns-in-44
unfolding lib.Utf8.encode
returns-in-44 c = rw c.in-44.is (search rules)
