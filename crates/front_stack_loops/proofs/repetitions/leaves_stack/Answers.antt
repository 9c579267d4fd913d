use Rattle.std.proofs.Common.{◌∙◌, ◌&&◌, not, sym, ap}
use Rattle.base_language.specs.Language.Expression.{comment}
use Rattle.front_stack_loops.specs.Expressions.{name_flag}
use Rattle.front_analysis.specs.Names.{grammar_of}
use Rattle.front_stack_loops.proofs.repetitions.leaves_stack.Goals as goal

pub returns-then-not-is_body_set : goal.returns-then-not-is_body_set
returns-then-not-is_body_set c = λ rs known.
    let g = grammar_of rs in
    let flag = name_flag g c.args.roots.now c.args.flags.now in
    let of_comment = c.is_body_set-then-not-is_body_set.ensures rs known ∙ ap flag c.comment_name.ensures.named in
    ap (λ z. not z) of_comment ∙ sym (ap (λ z. not z && not (flag comment)) (ap flag (sym c.whitespace_name.ensures.named) ∙ (sym (c.is_body_set.ensures rs known) ∙ c.if-not-is_body_set.true)))

pub returns-else-not-is_body_set : goal.returns-else-not-is_body_set
returns-else-not-is_body_set c = λ rs known.
    let g = grammar_of rs in
    let flag = name_flag g c.args.roots.now c.args.flags.now in
    ap (λ z. not z) c.if-not-is_body_set.false ∙ sym (ap (λ z. not z && not (flag comment)) (ap flag (sym c.whitespace_name.ensures.named) ∙ (sym (c.is_body_set.ensures rs known) ∙ c.if-not-is_body_set.false)))
