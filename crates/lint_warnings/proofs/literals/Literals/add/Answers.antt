use Rattle.lint_warnings.proofs.Known.{both_ok, knows_more}
use Rattle.lint_warnings.proofs.literals.Literals.add.Goals as goal

pub returns : goal.returns
returns c =
    both_ok c.add_length.result _ _ _ c.add_length.ensures.there c.add_length.ensures.kept
    (λ there kept texts known. knows_more texts c.args.self.now (record { texts = c.insert.new.self; lengths = c.add_length.new.lengths }) c.args.text c.utf8.text c.in_ok-insert.ensures.updates there kept known)
