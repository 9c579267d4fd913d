use Rattle.std.proofs.Common.{rules, string_bytes}
use Rattle.lint_findings.proofs.Fixing.{fixed_by}
use Rattle.lint_findings.proofs.fixes.fix_once.Goals as goal

pub returns : goal.returns
returns c =
    fixed_by c.args.takes_unsafe c.args.text.now (string_bytes c.in-Some-3.next) c.in-Some-2.fix c.in-Some.place c.in_ok-left.left
    (rw c.in-Some.is at c.requires) (search rules) (rw c.in-Some-3.is at c.in_ok-next.ensures) (rw c.as_str.ensures.value at c.in_ok-left.ensures) (c.is_further.ensures (search rules))
