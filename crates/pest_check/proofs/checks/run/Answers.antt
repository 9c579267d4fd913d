use Rattle.std.proofs.Common.{◌≡◌, ◌∙◌, Err, ap, subst, sym}
use Rattle.pest_check.specs.Written.{PrintsAnswer, ReportsRefusal}
use Rattle.pest_check.proofs.Reported.{not_three}
use Rattle.pest_meta.specs.Spelling.{IsRefusedWith}
use Rattle.pest_check.proofs.checks.run.Goals as goal

pub returns-clause-refused : goal.returns-clause-refused
returns-clause-refused g c =
    let told = c.report_refusal in
    let reason = rw (c.in-Err-Grammar.is ∙ ap Err c.in-Err-Grammar.field-0-is) at c.parse_and_optimize.ensures.refused in
    let reports : told.result.status ≡ 1 → ReportsRefusal c.args.err.now.is_terminal c.in-Ok.grammar.now told.result.write_result _ _ =
    λ one. record { errors = c.in-Err-Grammar.errors.items; reason = reason; tells = told.ensures.tells one } in
    let here : told.result.status ≡ 1 → ReportsRefusal c.args.err.now.is_terminal c.in-Some.bytes.now told.result.write_result _ _ = rw (← c.in-Ok.ensures.cases.0) reports in
    rw c.in-Some.is here

-- if there are rules, the text could be read
pub returns-in-Ok-parse_and_optimize-clause-decoded : goal.returns-in-Ok-parse_and_optimize-clause-decoded
returns-in-Ok-parse_and_optimize-clause-decoded g c =
    let status = c.print_rules.result.status in
    let known = c.print_rules.ensures.known in
    let utf8 = c.in-Ok.ensures.cases.1 in
    rw c.in-Some.is (λ three. absurd (not_three status known three), λ not_utf8. absurd (not_utf8 utf8))

pub returns-in-Ok-parse_and_optimize-clause-printed : goal.returns-in-Ok-parse_and_optimize-clause-printed
returns-in-Ok-parse_and_optimize-clause-printed g c =
    let answer = c.in-Ok-parse_and_optimize in
    let old = g.W.Write.contents c.args.out.now.writer in
    let new = g.W.Write.contents c.print_rules.new.out.writer in
    let answers = rw answer.is at c.parse_and_optimize.ensures.answer in
    let prints : c.print_rules.result.status ≡ 0 → PrintsAnswer c.in-Ok.grammar.now old new =
    λ zero. record { builtins = answer.field-0-0.items; rules = answer.rules.items; answers = answers; gained = c.print_rules.ensures.printed zero } in
    let here : c.print_rules.result.status ≡ 0 → PrintsAnswer c.in-Some.bytes.now old new = rw (← c.in-Ok.ensures.cases.0) prints in
    rw c.in-Some.is here
