-- The fixed parts of a page of HTML. Proofs do not look into these texts.
use Rattle.std.specs.Prelude.{ℕ, List}
use Rattle.doc_markup.specs.declared.template.TheConstants.{BODY, DIAGRAM_STYLE, FOOT, HEAD, NAMESPACE, STYLE}

unfoldable pub head : List ℕ
head = HEAD.now

unfoldable pub style : List ℕ
style = STYLE.now

unfoldable pub diagram_style : List ℕ
diagram_style = DIAGRAM_STYLE.now

unfoldable pub body : List ℕ
body = BODY.now

unfoldable pub foot : List ℕ
foot = FOOT.now

unfoldable pub namespace : List ℕ
namespace = NAMESPACE.now
