use Rattle.front_analysis.proofs.Answering.{answers}
use Rattle.front_analysis.proofs.Roots.{tabled_table}
use Rattle.front_analysis.specs.declared.kind_table.Question.TheVariants as asks
use Rattle.front_analysis.proofs.facts.facts_of.Goals as goal

pub returns : goal.returns
returns c =
    let rs = c.args.grammar.now.rules.now in
    let t = c.in_ok-table.table in
    let table = tabled_table rs t c.in_ok-table.ensures in
    record {
      tabled = c.in_ok-table.ensures;
      table = table;
      nullable = answers rs t table asks.TakesNothing c.in_ok-nullable.nullable.items c.in_ok-nullable.ensures.sound c.in_ok-nullable.ensures.closed;
      certain = answers rs t table asks.CannotFail c.in_ok-certain.certain.items c.in_ok-certain.ensures.sound c.in_ok-certain.ensures.closed;
    }
