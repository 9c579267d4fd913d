use Rattle.std.proofs.Common.{drop, length, nat_eq}
use Rattle.base_language.specs.Language.Matching.{begins}
use Rattle.matcher_code.proofs.CommentPositions.{found, len_closed, len_open}
use Rattle.matcher_code.proofs.comments.comment_len.Goals as goal

pub returns-in-Some-comment_end-clause-value : goal.returns-in-Some-comment_end-clause-value
returns-in-Some-comment_end-clause-value c =
    let opening = c.args.opening.now in
    let text = c.args.text.now in
    let f = found (begins nat_eq opening (drop c.args.at text)) (length opening) c.in-Some.size c.in-Some.ensures.value in
    len_closed opening c.args.closing.now text c.args.at c.in-Some.size c.in-Some-comment_end.end f.1 f.0 c.in-Some-comment_end.ensures

pub returns-in-None-comment_end-clause-value : goal.returns-in-None-comment_end-clause-value
returns-in-None-comment_end-clause-value c =
    let opening = c.args.opening.now in
    let text = c.args.text.now in
    let f = found (begins nat_eq opening (drop c.args.at text)) (length opening) c.in-Some.size c.in-Some.ensures.value in
    len_open opening c.args.closing.now text c.args.at c.in-Some.size f.1 f.0 c.in-None-comment_end.ensures
