use Rattle.std.proofs.Common.{refl}
use Rattle.std.specs.Fmt.{digits}
use Rattle.pest_meta.proofs.laws.printed_rows.Goals as goal

pub returns : goal.returns
unfolding digits
returns c = record {
  counted = refl;
  controls = refl;
  no_bounds = refl;
  wrapped = refl;
  other_quote = refl;
  beyond_ascii = refl;
  quotes = refl;
  skips = refl;
  wrapped_again = refl;
  two_signs = refl;
  flattened = refl;
  apart = refl;
  slices = refl;
  pushed = refl;
  literal_push = refl;
  tagged = refl;
}
