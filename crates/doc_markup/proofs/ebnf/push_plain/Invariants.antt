use Rattle.std.proofs.Common.{◌≡◌, ◌++◌, encode_utf8_all, string_bytes}
use Rattle.std.specs.List.{flat_map}
use Rattle.doc_markup.specs.Ebnf.{plain_character}
use Rattle.doc_markup.proofs.ebnf.push_plain.Given as goal

abbrev pub invariant-loop-character : goal.invariant-loop-character
invariant-loop-character l =
    string_bytes l.page ≡ string_bytes l.fn.page ++ encode_utf8_all (flat_map plain_character l.yielded)
