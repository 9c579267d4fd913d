use Rattle.std.proofs.Common.{◌∙◌, ◌++◌, ℕ, List, ap, append-nil, sym}
use Rattle.format_grammar.proofs.WhiteGaps.{no_comments}
use Rattle.format_grammar.proofs.comparison.add_comments.Goals as goal

pub returns-then-is_all_white : goal.returns-then-is_all_white
returns-then-is_all_white c =
    let none = no_comments c.args.gap.now (c.is_all_white.ensures c.if-is_all_white.true) in
    sym (ap (λ (cs : List ℕ). c.args.comments.now.items ++ cs) none ∙ append-nil c.args.comments.now.items)
