use Rattle.std.proofs.Common.{◌≡◌, ◌∙◌, ◌+◌, ◌-◌, ◌/◌, ◌%◌, ◌∷◌, ◌++◌, ℕ, List, [], append-nil, ap, codes, cond, false, nat_lt, sym}
use Rattle.std.proofs.lemmas.Bool.{le-ltb}
use Rattle.std.specs.List.{flat_map}
use Rattle.program_support.specs.Escapes.{four_digits, json_escape}
use Rattle.program_support.proofs.Escaping.{text_more}
use Rattle.program_support.proofs.LineParts.{on_ok}
use Rattle.program_support.proofs.json.push_escape.Goals as goal

unit : ℕ → List ℕ
unit u = codes "\\u" ++ four_digits u

-- the escape of a character that has two units
two_units : (c : ℕ) → nat_lt c 65536 ≡ false
    → unit (55296 + (c - 65536) / 1024) ++ unit (56320 + (c - 65536) % 1024) ≡ json_escape c
unfolding unit
two_units c above =
    let first = 55296 + (c - 65536) / 1024 in
    let second = 56320 + (c - 65536) % 1024 in
    ap (λ t. unit first ++ t) (sym (append-nil (unit second)))
    ∙ sym (ap (λ b. flat_map unit (cond b (c ∷ []) (first ∷ second ∷ []))) above)

pub returns : goal.returns
unfolding unit
returns c =
    let code = c.args.code in
    let first = 55296 + (code - 65536) / 1024 in
    let second = 56320 + (code - 65536) % 1024 in
    on_ok c.push_unit-3.result _ _
    (λ gained. text_more _ _ _ (unit first) (unit second) _ c.in_ok-push_unit.ensures gained (two_units code (le-ltb code 65536 c.if-code-lt65536.false)))
    c.push_unit-3.ensures
