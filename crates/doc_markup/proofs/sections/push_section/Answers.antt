use Rattle.std.proofs.Common.{◌++◌, ap, ◌∙◌, string_bytes}
use Rattle.std.specs.Str.{chars}
use Rattle.doc_markup.specs.Pages.{heading_bytes}
use Rattle.doc_markup.specs.Tokens.{markup_bytes}
use Rattle.doc_markup.proofs.Escaping.{five_more}
use Rattle.doc_markup.proofs.sections.push_section.Goals as goal

pub returns : goal.returns
returns c =
    five_more _ _ _ _ _ _ _ _ _ _ _
    (c.in_ok-push_heading.ensures ∙ ap (λ n. string_bytes c.args.page.now ++ heading_bytes (chars n)) c.as_str.ensures.value)
    (c.in_ok-push_markup.ensures ∙ ap (λ t. string_bytes c.push_heading.new.page ++ markup_bytes c.args.names.now t) c.deref.ensures.value)
    c.in_ok-push_expression.ensures
    (c.in_ok-push_markup-2.ensures ∙ ap (λ t. string_bytes c.push_expression.new.page ++ markup_bytes c.args.names.now t) c.deref-2.ensures.value)
    c.in_ok-push_str.ensures.bytes
