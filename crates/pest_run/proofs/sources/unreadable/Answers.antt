use Rattle.std.proofs.Common.{◌∙◌, ap, inl, subst, ℕ, List}
use Rattle.pest_run.specs.Messages.{unread_text}
use Rattle.pest_run.specs.Written.{WritesLine}
use Rattle.pest_run.proofs.sources.unreadable.Goals as goal

pub returns-in-Ok-clause-tells : goal.returns-in-Ok-clause-tells
returns-in-Ok-clause-tells g c =
    let P : List ℕ → Type 0 = λ t. WritesLine t c.exit_with.result.write_result (g.E.Write.contents c.args.err.now.writer) (g.E.Write.contents c.exit_with.new.err.writer) in
    let same = c.as_str.ensures.value ∙ (c.in-Ok.ensures ∙ ap (λ t. unread_text c.args.source.now.name.now t) c.why_unread-why.ensures) in
    inl (subst P same c.exit_with.ensures.tells)
