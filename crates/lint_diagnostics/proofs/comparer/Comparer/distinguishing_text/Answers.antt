use Rattle.std.specs.Prelude.{chars}
use Rattle.lint_diagnostics.proofs.Forms.{shown_by}
use Rattle.lint_diagnostics.proofs.comparer.Comparer.distinguishing_text.Goals as goal

pub returns : goal.returns
returns c =
    let f = rw c.in-Some.is at c.requires in
    shown_by c.args.self.now.grammar.now (chars c.args.rule.now) c.in-Some.forms c.first_difference.result f (c.first_difference.ensures f.first f.second f.written f.optimized)
