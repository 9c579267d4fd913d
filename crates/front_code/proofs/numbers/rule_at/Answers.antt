use Rattle.std.proofs.Common.{◌≡◌, sym, ◌∙◌, ap₂, ℕ, zero, suc, ◌-◌, ◌<◌, List, get_or, arith}
use Rattle.std.proofs.lemmas.List.{get_or_default, get_or_past}
use Rattle.base_language.specs.Pieces.MetaRules.{meta_rules}
use Rattle.base_language.specs.declared.grammar.Rule.{Rule}
use Rattle.base_language.specs.declared.grammar.Rule.TheVariants.{EOI}
use Rattle.front_code.specs.Numbers.{rule_numbered}
use Rattle.front_code.proofs.numbers.rule_at.Goals as goal

-- the rule of a number that is not 0
behind : (n : ℕ) (xs : List Rule) → 0 < n → xs ≡ meta_rules → get_or xs (n - 1) EOI ≡ rule_numbered n
behind zero xs l e = absurd (omega arith)
behind (suc k) xs l e =
    let i : suc k - 1 ≡ k = omega arith in
    ap₂ (λ ys j. get_or ys j EOI) e i

pub returns-in-Some : goal.returns-in-Some
returns-in-Some c =
    let l = c.in-Some.ensures.lookup in
    let xs = c.all_rules.result.now in
    l.1 ∙ (get_or_default xs (c.args.number - 1) c.in-Some.rule.now EOI l.3.0 ∙ behind c.args.number xs (omega arith) c.all_rules.ensures)

pub returns-in-None : goal.returns-in-None
returns-in-None c =
    let l = c.in-None.ensures.lookup in
    let xs = c.all_rules.result.now in
    sym (get_or_past xs (c.args.number - 1) EOI l.3) ∙ behind c.args.number xs (omega arith) c.all_rules.ensures
