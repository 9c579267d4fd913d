use Rattle.std.proofs.Common.{refl, subst, sym}
use Rattle.format_grammar.proofs.Ordering.{one_comment_more}
use Rattle.format_grammar.specs.Gaps.{AreComments}
use Rattle.format_grammar.specs.declared.gaps.Comment.{Comment}
use Rattle.format_grammar.proofs.gaps.Gap.add.Goals as goal

pub returns : goal.returns
returns c = λ bytes from starts h before.
    let comment : Comment = record {
      start = c.args.start;
      end = c.args.end;
      is_line = c.args.is_line;
      line_ends = c.args.self.now.line_ends;
    } in
    subst (λ cs. AreComments bytes from cs c.args.end) (sym c.in_ok-push.ensures.items)
    (one_comment_more bytes from c.args.start c.args.self.now.comments.items comment before refl starts h)
