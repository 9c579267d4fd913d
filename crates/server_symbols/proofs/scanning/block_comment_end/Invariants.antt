use Rattle.std.proofs.Common.{◌≡◌, ◌≤◌, ◌+◌, drop}
use Rattle.server_symbols.specs.Lexemes.{block_end, block_len}
use Rattle.server_symbols.proofs.scanning.block_comment_end.Given as goal

abbrev pub invariant-loop-end : goal.invariant-loop-end
invariant-loop-end l = (l.inner ≤ l.end) × (block_end l.text l.start ≡ l.end + block_len l.inner l.last (drop l.end l.text))
