use Rattle.matcher_code.proofs.CommentBytes.{nested_performs}
use Rattle.matcher_code.proofs.laws.nested_operation_takes_comment.Goals as goal

pub returns : goal.returns
returns c code number fail l n w i j opening closing valid_opening valid_closing fits_opening fits_closing is_opening is_closing h =
    nested_performs code number fail i j opening closing valid_opening valid_closing fits_opening fits_closing is_opening is_closing l n w h
