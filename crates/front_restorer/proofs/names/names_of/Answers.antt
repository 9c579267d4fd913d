use Rattle.std.proofs.Common.{◌≡◌, ◌∙◌, ap, sym, get_or, bytes_eq, string_bytes, rules}
use Rattle.std.specs.HashMap.{get_by_text}
use Rattle.std.proofs.lemmas.Map.Text.{hash_map_updates_text}
use Rattle.std.proofs.lemmas.Str.{IsUtf8-string_bytes}
use Rattle.base_ast.specs.Ast.{text_of}
use Rattle.base_ast.proofs.Characters.{bytes_text_eq, encodes-text_of}
use Rattle.front_restorer.proofs.Naming.{name_step}
use Rattle.front_restorer.proofs.names.names_of.Goals as goal

pub loop-number-preserved : goal.loop-number-preserved
loop-number-preserved c = λ n.
    let bs = c.args.bodies.now in
    let i = c.loop-number.number in
    let d = c.index-bodies-number.result in
    let own = string_bytes (get_or bs i d).name.now in
    let put = string_bytes c.in_ok-name.name in
    let key : put ≡ own = (let e : put ≡ string_bytes d.name.now = search rules in e ∙ ap (λ r. string_bytes r.name.now) c.index-bodies-number.is) in
    let same : bytes_eq put (string_bytes n) ≡ bytes_eq (text_of (get_or bs i d).name.now) (text_of n)
    = ap (λ z. bytes_eq z (string_bytes n)) key ∙ bytes_text_eq own (string_bytes n) (IsUtf8-string_bytes (get_or bs i d).name.now) (IsUtf8-string_bytes n) in
    let sets = hash_map_updates_text put c.loop-number.numbers c.insert.new.self _ c.in_ok-insert.ensures.updates (string_bytes n) in
    ap (get_by_text c.insert.new.self) (encodes-text_of n)
    ∙ name_step bs i (text_of n) d (bytes_eq put (string_bytes n)) (get_by_text c.loop-number.numbers (string_bytes n)) (get_by_text c.insert.new.self (string_bytes n)) c.loop-number-test.true same
    (sym (ap (get_by_text c.loop-number.numbers) (encodes-text_of n)) ∙ c.loop-number.invariant n) sets
