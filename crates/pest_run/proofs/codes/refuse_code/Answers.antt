use Rattle.std.proofs.Common.{◌≡◌, ◌∙◌, ◌++◌, List, ℕ, ap, codes, inl, subst}
use Rattle.program_support.specs.Escapes.{escaped_bytes}
use Rattle.pest_run.specs.Codes.{code_text, why_refused}
use Rattle.pest_run.specs.Written.{WritesLine}
use Rattle.pest_run.proofs.codes.refuse_code.Goals as goal

pub returns-in-Ok-clause-tells : goal.returns-in-Ok-clause-tells
returns-in-Ok-clause-tells g c =
    let old = g.E.Write.contents c.args.err.now.writer in
    let new = g.E.Write.contents c.exit_with_code.new.err.writer in
    let P : List ℕ → Type 0 = λ t. WritesLine t c.exit_with_code.result.write_result old new in
    let e : c.as_str.result.now ≡ code_text c.args.code.now.name.now c.args.code.now.bytes.items =
    c.as_str.ensures.value ∙ (c.in-Ok.ensures ∙ ap (λ w. codes "cannot run " ++ escaped_bytes c.args.code.now.name.now ++ codes ": " ++ w) (c.why_refused.ensures ∙ ap why_refused c.deref.ensures.value)) in
    inl (subst P e c.exit_with_code.ensures.tells)
