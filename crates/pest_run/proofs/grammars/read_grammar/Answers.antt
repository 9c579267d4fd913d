use Rattle.front_spanned.specs.Nodes.{rule_views}
use Rattle.pest_run.proofs.grammars.read_grammar.Goals as goal

pub returns-clause-rules : goal.returns-clause-rules
returns-clause-rules c =
    let opened = c.in_ok-opened.opened in
    record {
      builtins = opened.builtins.items;
      spelled = rule_views opened.rules.value.items;
      spells = c.in_ok-opened.ensures.rules;
      same = rw c.into_inner.ensures at c.in_ok-erase_spans.ensures;
    }
