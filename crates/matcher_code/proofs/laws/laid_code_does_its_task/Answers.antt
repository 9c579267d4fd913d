use Rattle.matcher_code.proofs.Forward.{comes}
use Rattle.matcher_code.proofs.laws.laid_code_does_its_task.Goals as goal

pub returns : goal.returns
returns c = λ exact g classes code number points fail laid k l n w p text s d at asks safe o does.
    comes code text number fail exact g classes points laid does (laid k l n w p) d at asks safe
