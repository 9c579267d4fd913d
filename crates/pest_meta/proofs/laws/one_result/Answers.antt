use Rattle.front_optimizer.proofs.OneFactoring.{one_factoring}
use Rattle.front_optimizer.proofs.OneJoining.{one_joining, one_skipping}
use Rattle.front_optimizer.proofs.OneResult.{optimized_once}
use Rattle.front_optimizer.proofs.OneRotation.{one_rotation}
use Rattle.front_optimizer.proofs.OneUnrolling.{one_unrolling}
use Rattle.front_optimizer.proofs.OneWrapping.{one_wrapping}
use Rattle.pest_meta.proofs.laws.one_result.Goals as goal

pub returns-clause-rotate : goal.returns-clause-rotate
returns-clause-rotate c = λ y. one_rotation

pub returns-clause-skip : goal.returns-clause-skip
returns-clause-skip c = one_skipping

pub returns-clause-unroll : goal.returns-clause-unroll
returns-clause-unroll c = λ y. one_unrolling

pub returns-clause-concatenate : goal.returns-clause-concatenate
returns-clause-concatenate c = one_joining

pub returns-clause-factor : goal.returns-clause-factor
returns-clause-factor c = one_factoring

pub returns-clause-restore : goal.returns-clause-restore
returns-clause-restore c = λ g y. one_wrapping g

pub returns-clause-optimize : goal.returns-clause-optimize
returns-clause-optimize c = λ rules answer other. optimized_once
