use Rattle.std.proofs.Common.{◌≡◌, rules, string_bytes}
use Rattle.front_reader.proofs.rules.flaws.flaw_errors.Goals as goal

pub returns-clause-one : goal.returns-clause-one
returns-clause-one c =
    let e = c.in_ok-error.ensures in
    let m : string_bytes c.in_ok-message.message ≡ c.message.result.now = search rules in
    record {
      error = c.in_ok-error.error;
      one = c.in_ok-vec.ensures.items;
      says = record {
        variant = rw (e.variant, m) c.message.ensures;
        location = e.location;
        line_col = e.line_col;
        line = e.line;
      };
    }
