use Rattle.std.proofs.Common.{◌≡◌, length, rules}
use Rattle.base_ast.specs.Optimized.{optimized_expression_of}
use Rattle.front_restorer.specs.Calls.{names_in}
use Rattle.front_restorer.specs.Names.{numbers_of}
use Rattle.front_restorer.proofs.Looking.{kept, noted_last}
use Rattle.front_restorer.proofs.summaries.summarize.Goals as goal

pub returns-clause-noted : goal.returns-clause-noted
returns-clause-noted c =
    let e = optimized_expression_of c.args.expr.now in
    let start : c.len-start.result ≡ length c.args.numbers.now.items = search rules in
    let end : c.len.result ≡ length c.look.new.numbers.items = search rules in
    noted_last c.args.names.now e c.args.numbers.now.items c.look.new.numbers.items (record { changes = c.in_ok-changes.changes; start = c.len-start.result; end = c.len.result }) c.in_ok-changes.ensures.numbers c.in_ok-changes.ensures.changes start end

pub returns-clause-kept : goal.returns-clause-kept
returns-clause-kept c =
    let e = optimized_expression_of c.args.expr.now in
    kept c.args.names.now c.args.numbers.now.items c.look.new.numbers.items (numbers_of c.args.names.now (names_in e)) c.in_ok-changes.ensures.numbers
