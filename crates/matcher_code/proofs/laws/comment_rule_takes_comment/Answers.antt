use Rattle.std.proofs.Common.{refl}
use Rattle.matcher_code.proofs.CommentRule.{comments_matched}
use Rattle.matcher_code.proofs.laws.comment_rule_takes_comment.Goals as goal

pub returns : goal.returns
returns c g classes m name r tight named mode no_token opening closing any has_opening has_closing anything is =
    comments_matched g classes m tight name opening closing any r.body is r named no_token mode refl anything has_opening has_closing
