use Rattle.std.proofs.Common.{◌≡◌, ◌++◌, string_bytes, take}
use Rattle.doc_markup.specs.Ebnf.{ebnf_bytes}
use Rattle.doc_markup.proofs.ebnf.push_ebnf.Given as goal

abbrev pub invariant-loop-token : goal.invariant-loop-token
invariant-loop-token l =
    string_bytes l.page ≡ string_bytes l.fn.page ++ ebnf_bytes (take l.token-index l.tokens)
