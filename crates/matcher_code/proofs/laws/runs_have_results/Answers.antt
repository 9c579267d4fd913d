use Rattle.matcher_code.proofs.Runs.{fails, goes_on, succeeds}
use Rattle.matcher_code.proofs.laws.runs_have_results.Goals as goal

pub returns-clause-halts : goal.returns-clause-halts
returns-clause-halts c = λ exact g classes code number points fail laid k l n w p up halt lose text u bytes asked asks m h.
    succeeds exact g classes code number points fail laid k l n w p up halt lose text u bytes asked asks m h

pub returns-clause-loses : goal.returns-clause-loses
returns-clause-loses c = λ exact g classes code number points fail laid k l n w p up halt lose text u bytes asked asks m h.
    fails exact g classes code number points fail laid k l n w p up halt lose text u bytes asked asks m h

pub returns-clause-goes_on : goal.returns-clause-goes_on
returns-clause-goes_on c = λ exact g classes code number points fail laid k l n w p up halt lose text u bytes asked asks m h o d.
    goes_on exact g classes code number points fail laid k l n w p up halt lose text u bytes asked asks m h o d
