use Rattle.pest_doc.proofs.run.answer_of.Goals as goal

pub returns-in_ok-html_page-in-Html : goal.returns-in_ok-html_page-in-Html
returns-in_ok-html_page-in-Html c = (c.file_name-title.result.now, rw c.in-Html.is c.in_ok-html_page-in-Html.ensures)

pub returns-in_ok-markdown_page-in-Markdown : goal.returns-in_ok-markdown_page-in-Markdown
returns-in_ok-markdown_page-in-Markdown c =
    (c.file_name-title.result.now, rw c.in-Markdown.is c.in_ok-markdown_page-in-Markdown.ensures)
