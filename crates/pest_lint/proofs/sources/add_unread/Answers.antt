use Rattle.std.proofs.Common.{inr}
use Rattle.pest_lint.specs.Sources.{IsOfFolder}
use Rattle.pest_lint.proofs.Gaining.{gain_more, gain_none, gain_one}
use Rattle.pest_lint.proofs.sources.add_unread.Goals as goal

pub loop-folder-init : goal.loop-folder-init
loop-folder-init c = gain_none IsOfFolder _

pub loop-folder-preserved : goal.loop-folder-preserved
loop-folder-preserved c =
    gain_more IsOfFolder _ _ _ c.loop-folder.invariant
    (gain_one IsOfFolder _ _ _ c.in_ok-push.ensures.items (inr c.in_ok-unread_source.ensures))

pub returns : goal.returns
returns c = c.loop-folder.invariant
