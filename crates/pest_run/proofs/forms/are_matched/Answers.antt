use Rattle.base_ast.specs.Optimized.{optimized_rules_of}
use Rattle.pest_run.proofs.forms.are_matched.Goals as goal

pub returns : goal.returns
returns c = λ spelled read e.
    let found = c.has_match-matched.ensures e in
    record {
      rules = optimized_rules_of c.in-Ok.rules.items;
      matched = c.in-Ok.ensures.rules spelled read;
      match_of = rw c.deref.ensures.value at found;
    }
