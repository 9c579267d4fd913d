-- The statuses of runs.
use Rattle.std.proofs.Common.{◌≡◌, refl, ℕ, List, Result, Ok, Err, arith}
use Rattle.matcher_code.specs.declared.state.TreeNode.{TreeNode}
use Rattle.matcher_engine.specs.declared.block.head.BlockFlaw.TheVariants as flaw
use Rattle.matcher_engine.specs.declared.block.runs.BlockStop.{BlockStop}
use Rattle.matcher_engine.specs.declared.block.runs.BlockStop.TheVariants as stop
use Rattle.matcher_engine.specs.declared.matcher.ParseTree.{ParseTree}
use Rattle.matcher_program.specs.declared.answers.Stop.TheVariants as limit
use Rattle.pest_meta_c.specs.Compiled.{Tells}

-- status 8 is that of a run that was stopped by its limit
pub stopped_by_limit : (outcome : Result ParseTree BlockStop) (nodes : List TreeNode) (end status : ℕ) → Tells outcome nodes end status → status ≡ 8
    → outcome ≡ Err (stop.Stopped limit.OutOfSteps)
stopped_by_limit (Ok it) nodes end status h e = absurd (omega (arith, h.0, e))
stopped_by_limit (Err (stop.NoMatch place)) nodes end status h e = absurd (omega (arith, h.0, e))
stopped_by_limit (Err (stop.Stopped limit.Memory)) nodes end status h e = absurd (omega (arith, h, e))
stopped_by_limit (Err (stop.Stopped limit.OutOfSteps)) nodes end status h e = refl
stopped_by_limit (Err (stop.Stopped limit.EmptyStack)) nodes end status h e = absurd (omega (arith, h, e))
stopped_by_limit (Err (stop.Stopped limit.TextTooLong)) nodes end status h e = absurd (omega (arith, h, e))
stopped_by_limit (Err stop.NoRule) nodes end status h e = absurd (omega (arith, h, e))
stopped_by_limit (Err (stop.Flaw flaw.NoBlock)) nodes end status h e = absurd (omega (arith, h, e))
stopped_by_limit (Err (stop.Flaw flaw.OtherVersion)) nodes end status h e = absurd (omega (arith, h, e))
stopped_by_limit (Err (stop.Flaw flaw.Changed)) nodes end status h e = absurd (omega (arith, h, e))
