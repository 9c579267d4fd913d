use Rattle.std.proofs.lemmas.Str.{chars_past_char}
use Rattle.front_reader.proofs.Literals.{chars_empty}
use Rattle.front_reader.proofs.rules.literal.first.Goals as goal

pub returns-in-Some-clause-parts : goal.returns-in-Some-clause-parts
returns-in-Some-clause-parts c = chars_past_char c.args.text.now c.as_str.result.now c.in-Some.c c.utf8.text (cc (c.in-Some.ensures.steps.0))

pub returns-in-None-clause-parts : goal.returns-in-None-clause-parts
returns-in-None-clause-parts c = chars_empty c.args.text.now (cc (c.in-None.ensures.steps.0.0))
