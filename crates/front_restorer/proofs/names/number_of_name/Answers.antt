use Rattle.std.proofs.Common.{◌≡◌, ◌∙◌, ap, sym, rules, string_bytes}
use Rattle.std.specs.HashMap.{get_by_text}
use Rattle.base_ast.proofs.Characters.{encodes-text_of}
use Rattle.front_restorer.proofs.names.number_of_name.Goals as goal

pub returns : goal.returns
returns c =
    let found : c.copied.result ≡ get_by_text c.args.names.now.numbers (string_bytes c.args.name.now) = search rules in
    found ∙ ap (get_by_text c.args.names.now.numbers) (sym (encodes-text_of c.args.name.now))
