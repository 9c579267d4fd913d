use Rattle.std.proofs.Common.{◌≡◌, [], length}
use Rattle.front_syntax.specs.declared.events.TokenEvent.TheVariants.{End}
use Rattle.format_grammar.specs.Tokens.{tokens_after, comments_after}
use Rattle.format_grammar.proofs.comparison.is_same.Given as goal

abbrev pub invariant-loop-event : goal.invariant-loop-event
invariant-loop-event l = record {
  tokens : tokens_after l.text l.last l.rest ≡ tokens_after l.other l.other_last l.other_rest
      → tokens_after l.text (End 0 0) l.events ≡ tokens_after l.other (End 0 0) l.others;
  comments : comments_after l.text l.leading.comments.items l.last l.rest
      ≡ comments_after l.other l.leading.others.items l.other_last l.other_rest
      → comments_after l.text [] (End 0 0) l.events ≡ comments_after l.other [] (End 0 0) l.others;
}

abbrev pub decreases-loop-event : goal.decreases-loop-event
decreases-loop-event l = length l.rest
