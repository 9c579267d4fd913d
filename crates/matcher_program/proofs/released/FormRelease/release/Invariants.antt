use Rattle.matcher_program.specs.FormWeight.{weight}
use Rattle.matcher_program.proofs.released.FormRelease.release.Given as goal

abbrev pub decreases-parts : goal.decreases-parts
decreases-parts l = weight l.rest
