use Rattle.std.proofs.Common.{◌≡◌, ◌∙◌, ℕ, List, map, subst}
use Rattle.std.specs.Io.KnownBytes.{Appends}
use Rattle.serde_json.specs.View.{view}
use Rattle.lint_findings.specs.Codes.{all_codes}
use Rattle.pest_lint.specs.Logs.{AreRules}
use Rattle.pest_lint.proofs.Logging.{rules_free}
use Rattle.pest_lint.proofs.log.print_log.Goals as goal

pub returns-clause-logs : goal.returns-clause-logs
returns-clause-logs g c = λ zero none.
    let P : List ℕ → Type 0 = λ t. Appends (g.W.Write.contents c.args.out.now.writer) (g.W.Write.contents c.write_text.new.self.writer) t in
    let pages : AreRules all_codes (map view c.in-Ok.rules.items) = rw c.all_facts.ensures.codes at c.in-Ok.ensures in
    record {
      rules = map view c.in-Ok.rules.items;
      pages = pages;
      gained = subst P (c.as_str.ensures.value ∙ c.in-Ok-sarif_log.ensures (rules_free all_codes (map view c.in-Ok.rules.items) pages) none) c.in-Ok-write_text.ensures.gained;
    }
