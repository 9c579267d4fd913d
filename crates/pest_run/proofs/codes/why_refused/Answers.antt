use Rattle.pest_run.proofs.CodeFiles.{none_why, other_why}
use Rattle.pest_run.proofs.codes.why_refused.Goals as goal

pub returns-in-Err-NoBlock : goal.returns-in-Err-NoBlock
returns-in-Err-NoBlock c = none_why c.args.code.now (rw c.in-Err-NoBlock.field-0-is at c.in-Err-NoBlock.ensures.flaw)

pub returns-in-Err-OtherVersion : goal.returns-in-Err-OtherVersion
returns-in-Err-OtherVersion c = let h = rw c.in-Err-OtherVersion.field-0-is at c.in-Err-OtherVersion.ensures.flaw in other_why c.args.code.now h.0 h.1
