use Rattle.std.proofs.Common.{refl}
use Rattle.pest_language_server.proofs.server.Server.answer.Goals as goal

pub returns-in-New-clause-phase : goal.returns-in-New-clause-phase
returns-in-New-clause-phase c = rw c.in-New.is c.answer_first.ensures.phase

pub returns-in-New-clause-answer : goal.returns-in-New-clause-answer
returns-in-New-clause-answer c = rw c.in-New.is c.answer_first.ensures.answer

pub returns-in-Running-clause-phase : goal.returns-in-Running-clause-phase
returns-in-Running-clause-phase c = rw c.in-Running.is c.answer_running.ensures.phase

pub returns-in-Running-clause-answer : goal.returns-in-Running-clause-answer
returns-in-Running-clause-answer c = rw c.in-Running.is c.answer_running.ensures.answer

pub returns-in-ShutDown-clause-phase : goal.returns-in-ShutDown-clause-phase
returns-in-ShutDown-clause-phase c = rw c.in-ShutDown.is refl

pub returns-in-ShutDown-clause-answer : goal.returns-in-ShutDown-clause-answer
returns-in-ShutDown-clause-answer c = rw c.in-ShutDown.is refl
