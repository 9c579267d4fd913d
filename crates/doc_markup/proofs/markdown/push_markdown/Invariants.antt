use Rattle.std.proofs.Common.{◌≡◌, ◌++◌, string_bytes, take}
use Rattle.doc_markup.specs.Markdown.{markdown_bytes}
use Rattle.doc_markup.proofs.markdown.push_markdown.Given as goal

abbrev pub invariant-loop-token : goal.invariant-loop-token
invariant-loop-token l =
    string_bytes l.page ≡ string_bytes l.fn.page ++ markdown_bytes l.names (take l.token-index l.tokens)
