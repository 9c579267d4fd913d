use Rattle.std.proofs.Common.{rules, ◌≡◌, ◌+◌}
use Rattle.std.proofs.lemmas.Str.{chars_from_encodes}
use Rattle.base_language.specs.Pieces.LineColumn.{line_number, column_number}
use Rattle.base_language.specs.Pieces.Span.{position_text, position_offset}
use Rattle.base_language.proofs.runtime.places.Position.line_col.Goals as goal

pub returns : goal.returns
returns c =
    let text = position_text c.args.self.now in
    let place = position_offset c.args.self.now in
    let line : 1 + c.count-line.result ≡ line_number text place = search rules in
    let column : 1 + c.count-column.result ≡ column_number text place = search (rules, chars_from_encodes) in
    cc
