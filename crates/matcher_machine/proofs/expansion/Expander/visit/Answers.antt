use Rattle.std.proofs.Common.{◌≡◌, false, true}
use Rattle.matcher_machine.proofs.Expanding.{ended, never_missing, played_own, waits_known}
use Rattle.matcher_machine.proofs.expansion.Expander.visit.Goals as goal

pub returns-in-None-clause-ended : goal.returns-in-None-clause-ended
returns-in-None-clause-ended c = λ xs visits x (_ : false ≡ false).
    ended c.args.log.now.entries.items c.args.self.now c.pop.new.self xs visits c.in-None.ensures.waiting.0 c.in-None.ensures.trees x

pub returns-in-None-entry-clause-visited : goal.returns-in-None-entry-clause-visited
returns-in-None-entry-clause-visited c = λ xs visits x (_ : true ≡ true).
    absurd (never_missing c.args.log.now.entries.items c.args.self.now c.in-Some.number _ xs visits c.in-Some.ensures.waiting c.in-None-entry.ensures.none x)

pub returns-in_ok-push_frame-in-Known-clause-visited : goal.returns-in_ok-push_frame-in-Known-clause-visited
returns-in_ok-push_frame-in-Known-clause-visited c = λ xs visits x (_ : true ≡ true).
    let waits = c.in_ok-push_frame-in-Known.ensures in
    waits_known c.args.log.now.entries.items c.args.self.now c.pop.new.self c.push_frame.new.self c.in-Some.number c.in-Some-entry.entry c.in-Known.from c.in-Known.to xs visits
    c.in-Some.ensures.waiting c.in-Some-entry.ensures.some c.in-Known.is c.in-Some.ensures.trees waits.trees waits.waiting x

pub returns-in_ok-play-in_default-clause-visited : goal.returns-in_ok-play-in_default-clause-visited
returns-in_ok-play-in_default-clause-visited c = λ xs visits x (_ : true ≡ true).
    let entry = c.in-Some-entry.entry in
    let plays = c.in_ok-play-in_default.ensures in
    played_own c.args.log.now.entries.items c.args.self.now c.pop.new.self c.play.new.self c.in-Some.number entry xs visits
    c.in-Some.ensures.waiting c.in-Some-entry.ensures.some c.in_default.not-Known c.in-Some.ensures.trees plays.waiting plays.trees x

pub returns-in_ok-play-in_default-clause-ended : goal.returns-in_ok-play-in_default-clause-ended
returns-in_ok-play-in_default-clause-ended c = λ xs visits x (z : true ≡ false). cc
