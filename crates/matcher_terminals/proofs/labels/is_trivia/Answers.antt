use Rattle.std.proofs.Common.{◌≡◌, refl, sym, ◌∙◌, ap, bytes_eq, true, false}
use Rattle.std.specs.Str.{chars}
use Rattle.std.proofs.lemmas.Str.{chars-IsAscii}
use Rattle.base_language.specs.Language.Expression.{comment, whitespace}
use Rattle.matcher_terminals.proofs.labels.is_trivia.Goals as goal

pub returns-then-same : goal.returns-then-same
returns-then-same c =
    let w : chars c.whitespace_name.result.now ≡ whitespace = chars-IsAscii _ c.whitespace_name.ensures.ascii ∙ c.whitespace_name.ensures.named in
    let e : c.same.result ≡ bytes_eq (chars c.args.name.now) whitespace = c.same.ensures ∙ ap (bytes_eq (chars c.args.name.now)) w in
    let t : bytes_eq (chars c.args.name.now) whitespace ≡ true = sym e ∙ c.if-same.true in
    c.if-same.true ∙ rw t refl

pub returns-else-same : goal.returns-else-same
returns-else-same c =
    let w : chars c.whitespace_name.result.now ≡ whitespace = chars-IsAscii _ c.whitespace_name.ensures.ascii ∙ c.whitespace_name.ensures.named in
    let v : chars c.comment_name.result.now ≡ comment = chars-IsAscii _ c.comment_name.ensures.ascii ∙ c.comment_name.ensures.named in
    let e : c.same.result ≡ bytes_eq (chars c.args.name.now) whitespace = c.same.ensures ∙ ap (bytes_eq (chars c.args.name.now)) w in
    let t : bytes_eq (chars c.args.name.now) whitespace ≡ false = sym e ∙ c.if-same.false in
    let r : c.same-else-same.result ≡ bytes_eq (chars c.args.name.now) comment = c.same-else-same.ensures ∙ ap (bytes_eq (chars c.args.name.now)) v in
    rw t r
