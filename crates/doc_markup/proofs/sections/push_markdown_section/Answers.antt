use Rattle.std.proofs.Common.{◌++◌, ap, ◌∙◌, string_bytes}
use Rattle.std.specs.Str.{chars}
use Rattle.doc_markup.specs.Markdown.{markdown_bytes}
use Rattle.doc_markup.specs.Pages.{markdown_heading}
use Rattle.doc_markup.proofs.Escaping.{five_more}
use Rattle.doc_markup.proofs.sections.push_markdown_section.Goals as goal

pub returns : goal.returns
returns c =
    five_more _ _ _ _ _ _ _ _ _ _ _
    (c.in_ok-push_markdown_heading.ensures ∙ ap (λ n. string_bytes c.args.page.now ++ markdown_heading (chars n)) c.as_str.ensures.value)
    (c.in_ok-push_markdown.ensures ∙ ap (λ t. string_bytes c.push_markdown_heading.new.page ++ markdown_bytes c.args.names.now t) c.deref.ensures.value)
    c.in_ok-push_markdown_expression.ensures
    (c.in_ok-push_markdown-2.ensures ∙ ap (λ t. string_bytes c.push_markdown_expression.new.page ++ markdown_bytes c.args.names.now t) c.deref-2.ensures.value)
    c.in_ok-push_str.ensures.bytes
