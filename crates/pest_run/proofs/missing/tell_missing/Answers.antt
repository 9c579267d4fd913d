use Rattle.std.proofs.Common.{inr, string_bytes}
use Rattle.pest_run.proofs.missing.tell_missing.Goals as goal

pub returns-in-Some-find_missing-clause-tells : goal.returns-in-Some-find_missing-clause-tells
returns-in-Some-find_missing-clause-tells g c = λ spelled read.
    rw (← c.in-Some.ensures.text) (inr (string_bytes c.in-Some-find_missing.line, c.in-Some-find_missing.ensures spelled read, rw c.as_str.ensures.value at c.write_help.ensures.tells))
