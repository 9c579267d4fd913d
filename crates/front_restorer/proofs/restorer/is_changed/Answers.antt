use Rattle.std.proofs.Common.{◌≡◌, ◌∙◌, rules}
use Rattle.base_graphs.specs.Least.{is_set_at}
use Rattle.front_restorer.specs.Summaries.{shows}
use Rattle.front_restorer.proofs.Looking.{shown}
use Rattle.front_restorer.proofs.restorer.is_changed.Goals as goal

pub returns : goal.returns
returns c =
    let changes = c.args.changes.now in
    let qs = c.summarize.new.numbers.items in
    let here : c.is_shown.result ≡ shows qs (is_set_at changes.flags.items) c.in_ok-share.share = search rules in
    here ∙ shown changes.names (is_set_at changes.flags.items) c.args.expr.now qs c.in_ok-share.share c.in_ok-share.ensures.noted
