use Rattle.std.proofs.lemmas.Str.{IsCharBoundary-start}
use Rattle.pest_meta_c.proofs.calls.rust_keyword.Goals as goal

pub of-requires-clause-starts_at_character : goal.of-requires-clause-starts_at_character
of-requires-clause-starts_at_character c = IsCharBoundary-start c.args.name.now c.utf8.name
