use Rattle.std.proofs.Common.{ℕ, List, string_bytes, subst}
use Rattle.std.specs.Io.KnownBytes.{Appends}
use Rattle.pest_lint.proofs.lint.print_sources.Goals as goal

pub returns-clause-shows : goal.returns-clause-shows
returns-clause-shows g c = λ not_two not_four.
    let P : List ℕ → Type 0 = λ t. Appends (g.W.Write.contents c.print_files-status.new.out.writer) (g.W.Write.contents c.write_text.new.self.writer) t in
    record {
      between = g.W.Write.contents c.print_files-status.new.out.writer;
      shown = c.print_files-status.ensures.shows not_two not_four;
      end = string_bytes c.in-Ok.end;
      ends = c.in-Ok.ensures;
      gained = subst P c.as_str.ensures.value c.in-Ok-write_text.ensures.gained;
    }
