use Rattle.std.proofs.Common.{◌≡◌, ◌++◌, encode_utf8_all, string_bytes}
use Rattle.program_support.proofs.escape.push_escape.Given as goal

abbrev pub invariant-loop-sign : goal.invariant-loop-sign
invariant-loop-sign l = string_bytes l.text ≡ string_bytes l.fn.text ++ encode_utf8_all l.yielded
