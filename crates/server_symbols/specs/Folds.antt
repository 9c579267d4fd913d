-- Folds of texts.
use Rattle.std.specs.Prelude.{List, [], ◌∷◌, ◌++◌, Bool, true, false, Option, Some, None, flat_map, if◌then◌else◌}
use Rattle.server_symbols.specs.Occurrences.{extent_of}
use Rattle.server_symbols.specs.Tokens.{is_comment}
use Rattle.server_symbols.specs.declared.folding.Fold.{Fold}
use Rattle.server_symbols.specs.declared.outline.Definition.{Definition}
use Rattle.server_symbols.specs.declared.tokens.Extent.{Extent}
use Rattle.server_symbols.specs.declared.tokens.Token.{Token}
use Rattle.server_symbols.specs.declared.tokens.TokenClass.{TokenClass}
use Rattle.server_symbols.specs.declared.tokens.TokenClass.TheVariants as class

-- the fold of a body, where there is one
abbrev pub body_fold : Option Extent → List Fold
body_fold None = []
body_fold (Some body) = record { extent = body; is_comment = false } ∷ []

abbrev pub body_folds : List Definition → List Fold
body_folds definitions = flat_map (λ definition. body_fold definition.body) definitions

abbrev pub is_plain_comment : TokenClass → Bool
is_plain_comment class.Comment = true
is_plain_comment _ = false

abbrev pub is_doc : TokenClass → Bool
is_doc class.Doc = true
is_doc _ = false

abbrev pub is_grammar_doc : TokenClass → Bool
is_grammar_doc class.GrammarDoc = true
is_grammar_doc _ = false

-- whether two classes are the same one of comments
abbrev pub is_same_comment : TokenClass → TokenClass → Bool
is_same_comment class.Comment other = is_plain_comment other
is_same_comment class.Doc other = is_doc other
is_same_comment class.GrammarDoc other = is_grammar_doc other
is_same_comment _ other = false

-- two neighbours as one
abbrev pub joined : Token → Token → Token
joined token next = record { class = token.class; start = token.start; end = next.end }

-- the fold of a token, if it is a comment
abbrev pub comment_fold : Token → List Fold
comment_fold token = if is_comment token.class
    then record { extent = extent_of token; is_comment = true } ∷ [] else []

-- neighbours of one class of comments are one
abbrev pub next_token : Token → Token → Token
next_token token next = if is_same_comment token.class next.class then joined token next else next

-- the fold of a token that is not one with the next
abbrev pub folds_before : Token → Token → List Fold
folds_before token next = if is_same_comment token.class next.class then [] else comment_fold token

-- the folds of comments from a token on
abbrev pub folds_from : Token → List Token → List Fold
folds_from token [] = comment_fold token
folds_from token (next ∷ tokens) = folds_before token next ++ folds_from (next_token token next) tokens

abbrev pub comment_folds : List Token → List Fold
comment_folds [] = []
comment_folds (token ∷ tokens) = folds_from token tokens

-- what can be folded: bodies, and comments
abbrev pub folds : List Token → List Definition → List Fold
folds tokens definitions = body_folds definitions ++ comment_folds tokens
