use Rattle.front_syntax.proofs.grammar.syntax_errors.Goals as goal

pub returns-clause-one : goal.returns-clause-one
returns-clause-one c =
    let e = c.in_ok-error.ensures in
    let text = rw c.unwrap-position.ensures at c.new.ensures.text in
    let place = rw c.unwrap-position.ensures at c.new.ensures.place in
    record {
      error = c.in_ok-error.error;
      one = c.in_ok-vec.ensures.items;
      variant = e.variant;
      location = rw (← place) e.location;
      line_col = rw (← place, ← text) e.line_col;
      line = rw (← place, ← text) e.line;
    }
