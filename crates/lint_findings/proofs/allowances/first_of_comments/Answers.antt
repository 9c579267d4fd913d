use Rattle.std.proofs.Common.{◌≡◌, ◌∙◌, ◌+◌, ◌-◌, arith, length, map, false, subst, sym, take, true}
use Rattle.std.proofs.lemmas.List.{length-map}
use Rattle.std.proofs.lemmas.List.Sums.{suffix_len-take_no, suffix_len-take_yes}
use Rattle.std.specs.List.{suffix_len}
use Rattle.lint_findings.specs.Fragments.{fragment_of}
use Rattle.lint_findings.specs.Starts.{is_comment}
use Rattle.lint_findings.proofs.Placing.{viewed_at}
use Rattle.lint_findings.proofs.allowances.first_of_comments.Goals as goal

pub loop-first-preserved : goal.loop-first-preserved
loop-first-preserved c =
    let lines = map fragment_of c.args.lines.now in
    let n = c.loop-first.first in
    let long : length lines ≡ length c.args.lines.now = length-map c.args.lines.now fragment_of in
    let more : suffix_len is_comment (take n lines) ≡ 1 + suffix_len is_comment (take (n - 1) lines) =
    suffix_len-take_yes is_comment lines n (fragment_of c.index-lines-first.result) (omega arith) (omega arith)
    (subst (λ f. is_comment f ≡ true) (viewed_at c.args.lines.now (n - 1) c.index-lines-first.result c.index-lines-first.is) (sym c.is_comment.ensures ∙ c.if-is_comment.true)) in
    record { within = omega arith; passed = omega arith }

pub returns-else-is_comment-clause-first : goal.returns-else-is_comment-clause-first
returns-else-is_comment-clause-first c =
    let lines = map fragment_of c.args.lines.now in
    let n = c.loop-first.first in
    let long : length lines ≡ length c.args.lines.now = length-map c.args.lines.now fragment_of in
    let none : suffix_len is_comment (take n lines) ≡ 0 =
    suffix_len-take_no is_comment lines n (fragment_of c.index-lines-first.result) (omega arith) (omega arith)
    (subst (λ f. is_comment f ≡ false) (viewed_at c.args.lines.now (n - 1) c.index-lines-first.result c.index-lines-first.is) (sym c.is_comment.ensures ∙ c.if-is_comment.false)) in
    omega arith
