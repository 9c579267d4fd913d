use Rattle.std.proofs.Common.{arith}
use Rattle.std.proofs.lemmas.Grind.{common_steps}
use Rattle.doc_pages.proofs.html.render_diagram.Goals as goal

pub returns : goal.returns
returns c = record {
  tokens = c.in_ok-markup.markup.tokens.items;
  written = grind (arith, common_steps);
  shown = c.in_ok-markup.ensures;
}
