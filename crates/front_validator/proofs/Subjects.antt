-- The names of rules that are skipped, as subjects of messages.
use Rattle.std.proofs.Common.{◌≡◌, ◌∙◌, ℕ, List, Bool, true, Global, String, ap, bytes_eq, string_bytes, sym}
use Rattle.std.specs.Str.{IsAscii}
use Rattle.std.proofs.Math.Utf8.{encodes}
use Rattle.std.proofs.lemmas.Slice.Eq.{bytes_eq-Decides}
use Rattle.std.proofs.lemmas.Str.{encodes-IsAscii, encodes-chars, IsUtf8-string_bytes}
use Rattle.base_ast.specs.Ast.{text_of}

-- a name of the characters of a plain text has its bytes
spelled : (name : String Global) (literal : List ℕ) → IsAscii literal → bytes_eq (text_of name) literal ≡ true → literal ≡ string_bytes name
spelled name literal plain e =
    sym (encodes-IsAscii literal plain) ∙ ap encodes (sym ((bytes_eq-Decides (text_of name) literal).0 e)) ∙ encodes-chars (string_bytes name) (IsUtf8-string_bytes name)

pub named_so : (name : String Global) (literal word : List ℕ) (r : Bool) → IsAscii literal → literal ≡ word → r ≡ bytes_eq (text_of name) literal → r ≡ true → word ≡ string_bytes name
named_so name literal word r plain is_word e is_named = sym is_word ∙ spelled name literal plain (sym e ∙ is_named)
