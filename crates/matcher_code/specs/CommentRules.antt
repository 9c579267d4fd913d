-- Rules that match comments within comments, and their outcome.
use Rattle.std.specs.Prelude.{◌≡◌, ◌⊎◌, ◌==◌, if◌then◌else◌}
use Rattle.base_language.specs.Language.Text.{Text}
use Rattle.base_language.specs.Language.Expression.{Choice, Expression, Ident, NegPred, Rep, Seq, Str}
use Rattle.base_language.specs.Language.State.{Failure, None', Outcome, State, Success, moved}
use Rattle.matcher_code.specs.Comments.{comment_len}

-- the comment that begins here, by the texts that open and close one
abbrev pub comment_outcome : Text → Text → State → Outcome
comment_outcome opening closing s =
    let n = comment_len opening closing s.rest in if n == 0 then Failure else Success (moved n s) None'

-- a comment within a comment, or a character with which none ends
abbrev pub comment_part : Text → Text → Expression → Expression
comment_part name closing any = Choice (Ident name) (Seq (NegPred (Str closing)) any)

-- the body of a rule of comments, `opening ~ (name | !closing ~ any)* ~ closing`, where sequences nest to the
-- left or to the right
abbrev pub IsCommentBody : Text → Text → Text → Expression → Expression → Type 0
IsCommentBody name opening closing any body =
    (body ≡ Seq (Seq (Str opening) (Rep (comment_part name closing any))) (Str closing))
    ⊎ (body ≡ Seq (Str opening) (Seq (Rep (comment_part name closing any)) (Str closing)))
