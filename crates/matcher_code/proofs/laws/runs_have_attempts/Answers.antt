use Rattle.matcher_code.proofs.Runs.{has_attempts}
use Rattle.matcher_code.proofs.laws.runs_have_attempts.Goals as goal

pub returns : goal.returns
returns c = λ exact g classes code number points fail laid k l n w p up halt lose text u bytes asked asks m ended.
    has_attempts exact g classes code number points fail laid k l n w p up halt lose text u bytes asked asks m ended
