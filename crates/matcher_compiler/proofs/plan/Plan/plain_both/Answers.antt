use Rattle.matcher_compiler.proofs.plan.Plan.plain_both.Goals as goal

pub other_character-requires : goal.other_character-requires
other_character-requires c = record {
  refused = rw c.in-Some.is at c.in_ok-refused.ensures;
  ranges = rw c.in-Some-made.is at c.in_ok-made.ensures;
  tight = c.requires.tight;
}
