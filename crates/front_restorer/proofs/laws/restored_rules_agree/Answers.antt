use Rattle.front_restorer.proofs.Safe.{agree, restored}
use Rattle.front_restorer.proofs.laws.restored_rules_agree.Goals as goal

pub returns-clause-safe : goal.returns-clause-safe
returns-clause-safe c = restored

pub returns-clause-agree : goal.returns-clause-agree
returns-clause-agree c = agree
