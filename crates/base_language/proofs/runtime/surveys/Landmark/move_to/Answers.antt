use Rattle.std.proofs.Common.{rules, ◌≡◌, ◌+◌, length, take, slice_range, arith, ap, ◌∙◌, sym}
use Rattle.std.specs.List.{count_by}
use Rattle.std.specs.Str.{chars}
use Rattle.std.proofs.lemmas.Str.{IsUtf8-take}
use Rattle.base_language.specs.Pieces.LineColumn.{is_line_feed, last_line, line_number, column_number}
use Rattle.base_language.specs.Pieces.Landmarks.{column_behind}
use Rattle.base_language.proofs.Surveys.{before_place, column_moves, line_moves}
use Rattle.base_language.proofs.runtime.surveys.Landmark.move_to.Goals as goal

pub column_behind-requires-clause-fits : goal.column_behind-requires-clause-fits
column_behind-requires-clause-fits c = omega (arith, c.range-passed.ensures.len, c.requires.landmark.fits, c.requires.between.0)

pub returns-clause-landmark : goal.returns-clause-landmark
returns-clause-landmark c =
    let text = c.args.text.now in
    let i = c.args.self.place in
    let j = c.args.place in
    let passed = c.range-passed.ensures.value in
    let feeds : c.count.result ≡ count_by is_line_feed c.range-passed.result.now = search rules in
    let line : c.args.self.line + c.count.result ≡ line_number text j =
    ap (λ n. n + c.count.result) (ap (λ p. p.0) c.requires.landmark.line_column) ∙ ap (λ n. line_number text i + n) (feeds ∙ ap (count_by is_line_feed) passed) ∙ sym (line_moves text i j c.requires.behind) in
    let column : c.column_behind.result ≡ column_number text j =
    c.column_behind.ensures.column ∙ ap (λ n. column_behind n c.range-passed.result.now) (ap (λ p. p.1) c.requires.landmark.line_column)
    ∙ ap (column_behind (column_number text i)) passed
    ∙ sym (column_moves (take i text) (slice_range text i j) (IsUtf8-take text i c.utf8.text c.requires.landmark.between))
    ∙ ap (λ t. 1 + length (chars (last_line t))) (sym (before_place text i j c.requires.behind)) in
    record {
      between = c.requires.between;
      line_column = cc;
      from_one = c.column_behind.ensures.from_one;
      fits = omega (arith, c.column_behind.ensures.fits, c.range-passed.ensures.len, c.requires.landmark.fits);
    }
