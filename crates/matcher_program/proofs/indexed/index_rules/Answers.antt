use Rattle.std.proofs.Common.{◌≡◌, ◌∙◌, ap, get_or, bytes_eq, string_bytes, rules}
use Rattle.std.specs.HashMap.{get_by_text}
use Rattle.std.specs.Str.{chars}
use Rattle.std.proofs.lemmas.Map.Text.{hash_map_updates_text}
use Rattle.std.proofs.lemmas.Str.{IsUtf8-string_bytes}
use Rattle.base_ast.specs.Ast.{text_of}
use Rattle.base_ast.proofs.Characters.{bytes_text_eq}
use Rattle.matcher_program.proofs.Indexing.{name_step}
use Rattle.matcher_program.proofs.indexed.index_rules.Goals as goal

pub loop-number-preserved : goal.loop-number-preserved
loop-number-preserved c = λ name u.
    let rs = c.args.rules.now in
    let i = c.loop-number.number in
    let d = c.index-rules-number.result in
    let bs = string_bytes c.in_ok-name.name in
    let own = string_bytes (get_or rs i d).name in
    let key : bs ≡ own = (let e : bs ≡ string_bytes d.name = search rules in e ∙ ap (λ r. string_bytes r.name) c.index-rules-number.is) in
    let same : bytes_eq bs name ≡ bytes_eq (text_of (get_or rs i d).name) (chars name)
    = ap (λ z. bytes_eq z name) key ∙ bytes_text_eq own name (IsUtf8-string_bytes (get_or rs i d).name) u in
    let sets = hash_map_updates_text bs c.loop-number.numbers c.insert.new.self _ c.in_ok-insert.ensures.updates name in
    name_step rs i (chars name) d (bytes_eq bs name) (get_by_text c.loop-number.numbers name) (get_by_text c.insert.new.self name) c.loop-number-test.true same (c.loop-number.invariant name u) sets
