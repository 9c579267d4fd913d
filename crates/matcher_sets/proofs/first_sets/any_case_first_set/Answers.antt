use Rattle.std.proofs.Common.{[], chars, subst}
use Rattle.base_language.specs.Language.Builtins.{is_between}
use Rattle.matcher_sets.specs.Forms.{grammar_in}
use Rattle.matcher_sets.specs.Ranges.{Adds}
use Rattle.matcher_sets.proofs.Heading.{any_case_takes}
use Rattle.matcher_sets.proofs.first_sets.any_case_first_set.Goals as goal

pub returns : goal.returns
returns c = λ p m.
    let low = c.push_range.new.ranges.items in
    let high = c.push_range-2.new.ranges.items in
    record {
      takes = λ classes fits.
          any_case_takes (grammar_in p) classes m (chars c.args.text.now) c.in-Some.c c.in-Some.ensures.some low high
          (subst (λ a. Adds [] low (is_between a a)) c.to_ascii_lowercase-lower.ensures.value
          (subst (λ xs. Adds xs low (is_between c.to_ascii_lowercase-lower.result c.to_ascii_lowercase-lower.result)) c.new-ranges.ensures.items c.in_ok-push_range.ensures))
          (subst (λ a. Adds low high (is_between a a)) c.to_ascii_uppercase-upper.ensures.value c.in_ok-push_range-2.ensures);
    }
