-- The bytes of a text in parentheses.
use Rattle.std.proofs.Common.{◌≡◌, ◌++◌, ap, codes, encode_utf8_all, ◌∙◌}
use Rattle.std.proofs.lemmas.Str.{encodes-append}
use lib.Utf8.{encode}
use Rattle.base_language.specs.Language.Text.{Text}
use Rattle.base_ast.specs.Printing.{parenthesized}

pub parenthesized_bytes : (t : Text) → encode_utf8_all (parenthesized t) ≡ codes "(" ++ encode_utf8_all t ++ codes ")"
unfolding encode
parenthesized_bytes t =
    encodes-append (codes "(" ++ t) (codes ")") ∙ ap (λ u. u ++ codes ")") (encodes-append (codes "(") t)
