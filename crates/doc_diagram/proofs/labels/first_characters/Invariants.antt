use Rattle.std.proofs.Common.{◌≡◌, encode_utf8_all, string_bytes}
use Rattle.doc_diagram.proofs.labels.first_characters.Given as goal

abbrev pub invariant-loop-character : goal.invariant-loop-character
invariant-loop-character l = string_bytes l.start ≡ encode_utf8_all l.yielded
