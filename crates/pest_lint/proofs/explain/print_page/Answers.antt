use Rattle.std.proofs.Common.{◌∙◌, ℕ, List, subst}
use Rattle.std.specs.Io.KnownBytes.{Appends}
use Rattle.pest_lint.proofs.explain.print_page.Goals as goal

pub returns-clause-explains : goal.returns-clause-explains
returns-clause-explains g c = λ zero.
    let P : List ℕ → Type 0 = λ t. Appends (g.W.Write.contents c.args.out.now.writer) (g.W.Write.contents c.write_text.new.self.writer) t in
    record {
      code = c.in-Some.code;
      named = c.in-Some.ensures.named;
      page = c.explanation.result.now;
      gained = subst P (c.as_str.ensures.value ∙ c.in-Ok.ensures) c.in-Ok-write_text.ensures.gained;
    }
