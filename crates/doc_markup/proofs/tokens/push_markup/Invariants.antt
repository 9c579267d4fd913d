use Rattle.std.proofs.Common.{◌≡◌, ◌++◌, string_bytes, take}
use Rattle.doc_markup.specs.Tokens.{markup_bytes}
use Rattle.doc_markup.proofs.tokens.push_markup.Given as goal

abbrev pub invariant-loop-token : goal.invariant-loop-token
invariant-loop-token l =
    string_bytes l.page ≡ string_bytes l.fn.page ++ markup_bytes l.names (take l.token-index l.tokens)
