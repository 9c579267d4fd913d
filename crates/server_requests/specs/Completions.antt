-- Completions.
use Rattle.std.specs.List.{list_any}
use Rattle.std.specs.Prelude.{◌≡◌, ◌&&◌, ℕ, List, ◌++◌, Bool, false, None, codes, drop, nat_le, nat_lt, take}
use Rattle.serde_json.specs.Data.{Data, array, no_items}
use Rattle.serde_json.specs.View.{view}
use Rattle.server_protocol.specs.declared.messages.Answer.{Answer}
use Rattle.server_protocol.specs.Asked.{asked_position}
use Rattle.server_protocol.specs.declared.messages.Answer.TheVariants as answer
use Rattle.server_protocol.specs.declared.messages.ErrorCode.TheVariants.{InvalidParams}
use Rattle.server_requests.specs.Names.{IsAskedOffset}
use Rattle.server_requests.specs.declared.context.Context.{Context}
use Rattle.server_symbols.specs.Lexemes.{AreTokens}
use Rattle.server_symbols.specs.Occurrences.{is_name}
use Rattle.server_symbols.specs.declared.tokens.Token.{Token}

-- a text with a letter put before a byte
abbrev pub with_letter : List ℕ → ℕ → List ℕ
with_letter text k = take k text ++ codes "a" ++ drop k text

-- whether a token is a name that has a byte
abbrev pub is_name_over : ℕ → Token → Bool
is_name_over k token = is_name token.class && nat_le token.start k && nat_lt k token.end

-- the completions before a byte: none if a letter that is put there is not one of a name
pub record AreCompletionsAt (context : Context) (k : ℕ) (v : Data) : Type 0 where
  pub tokens : List Token
  pub lexed : AreTokens (with_letter context.text.now k) tokens
  pub none : list_any (is_name_over k) tokens ≡ false → v ≡ array no_items

-- so it is at the position in parameters
abbrev pub AreCompletions : Context → Data → Answer → Type 0
AreCompletions context params (answer.Result v) = (offset : ℕ) × IsAskedOffset context params offset
    × AreCompletionsAt context offset (view v)
AreCompletions context params (answer.Error code reason) =
    (asked_position params ≡ None) × (code ≡ InvalidParams)
