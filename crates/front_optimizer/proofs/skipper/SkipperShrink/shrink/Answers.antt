use Rattle.front_optimizer.specs.Bodies.{skipped, stays}
use Rattle.front_optimizer.proofs.Skipping.{no_turns}
use Rattle.front_optimizer.proofs.skipper.SkipperShrink.shrink.Goals as goal

pub returns-in-Some-clause-gives : goal.returns-in-Some-clause-gives
returns-in-Some-clause-gives c = λ g h. rw c.in-Rep.is (skipped (rw (c.deref.ensures, c.in-Some.is) at c.in_ok-texts-in-Rep.ensures g h))

pub returns-in-None-clause-gives : goal.returns-in-None-clause-gives
returns-in-None-clause-gives c = λ g h. rw (c.in-Rep.is, c.into_inner.ensures) (stays (rw (c.deref.ensures, c.in-None.is) at c.in_ok-texts-in-Rep.ensures g h))

pub returns-in_default-clause-gives : goal.returns-in_default-clause-gives
returns-in_default-clause-gives c = λ g h. stays (no_turns g c.args.expr c.in_default.not-Rep)
