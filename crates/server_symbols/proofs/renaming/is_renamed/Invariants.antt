use Rattle.std.proofs.Common.{◌≡◌, length}
use Rattle.server_symbols.specs.Renaming.{first, renamed_after, tokens_after}
use Rattle.server_symbols.proofs.renaming.is_renamed.Given as goal

abbrev pub invariant-loop-event : goal.invariant-loop-event
invariant-loop-event l = tokens_after l.edited l.other_last l.other_rest ≡ renamed_after l.text l.name l.new_name l.last l.rest → tokens_after l.edited first l.others ≡ renamed_after l.text l.name l.new_name first l.events

abbrev pub decreases-loop-event : goal.decreases-loop-event
decreases-loop-event l = length l.rest
