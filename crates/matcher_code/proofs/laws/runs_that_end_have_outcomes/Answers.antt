use Rattle.matcher_code.proofs.Existence.{finds}
use Rattle.matcher_code.proofs.laws.runs_that_end_have_outcomes.Goals as goal

pub returns : goal.returns
returns c = λ exact g classes code number points fail laid k l n w p text s d at asks safe steps over.
    finds code text number fail exact g classes points laid p s d at asks safe steps over
