use Rattle.std.proofs.Common.{◌≡◌, ◌++◌, encode_utf8_all, string_bytes}
use Rattle.doc_markup.specs.Escape.{escaped}
use Rattle.doc_markup.proofs.escape.push_escaped.Given as goal

abbrev pub invariant-loop-character : goal.invariant-loop-character
invariant-loop-character l =
    string_bytes l.page ≡ string_bytes l.fn.page ++ encode_utf8_all (escaped l.yielded)
