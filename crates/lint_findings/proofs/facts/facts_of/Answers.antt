use Rattle.lint_findings.specs.Codes.{code_name, message_of, report_of}
use Rattle.lint_findings.proofs.Named.{in_range, in_table}
use Rattle.lint_findings.proofs.facts.facts_of.Goals as goal

pub bounds-all_facts-code : goal.bounds-all_facts-code
bounds-all_facts-code c = in_range c.all_facts.result.now c.args.code c.all_facts.ensures.codes

pub returns : goal.returns
returns c =
    let table = c.all_facts.result.now in
    record {
      code = in_table (λ facts. facts.code) (λ code. code) table _ c.args.code c.all_facts.ensures.codes;
      name = in_table (λ facts. facts.name.now) code_name table _ c.args.code c.all_facts.ensures.names;
      report = in_table (λ facts. facts.report) report_of table _ c.args.code c.all_facts.ensures.reports;
      message = in_table (λ facts. facts.message.now) message_of table _ c.args.code c.all_facts.ensures.messages;
    }
