use Rattle.std.proofs.Common.{chars, subst}
use Rattle.base_language.specs.Language.Builtins.{is_between}
use Rattle.matcher_sets.specs.Forms.{grammar_in}
use Rattle.matcher_sets.specs.Ranges.{Adds}
use Rattle.matcher_sets.proofs.Heading.{literal_takes}
use Rattle.matcher_sets.proofs.first_sets.literal_first_set.Goals as goal

pub returns : goal.returns
returns c = λ p m. record {
  takes = λ classes fits.
      literal_takes (grammar_in p) classes m (chars c.args.text.now) c.in-Some.c c.in-Some.ensures.some c.push_range.new.ranges.items
      (subst (λ xs. Adds xs c.push_range.new.ranges.items (is_between c.in-Some.c c.in-Some.c)) c.new-ranges.ensures.items c.in_ok-push_range.ensures);
}
