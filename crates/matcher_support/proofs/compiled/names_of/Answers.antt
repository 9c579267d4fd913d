use Rattle.std.proofs.Common.{◌≡◌, ◌∙◌, ◌<◌, [], ap, ap₂, arith, chars, get_or, length}
use Rattle.std.proofs.lemmas.List.{length-map}
use Rattle.matcher_compiler.specs.Names.{number_in}
use Rattle.matcher_engine.specs.Walks.{name_in}
use Rattle.matcher_engine.proofs.Known.{known_text}
use Rattle.matcher_engine.proofs.RuleNumbers.{next_name, number_at, number_within, rule_number_at}
use Rattle.matcher_support.proofs.compiled.names_of.Goals as goal

pub loop-rule-preserved : goal.loop-rule-preserved
loop-rule-preserved c = λ g of ns e h.
    let i = c.loop-rule.rule-index in
    let long : length c.args.rules.now ≡ length ns = ap length e ∙ length-map ns (number_in g) in
    let l : i < length ns = omega (arith, long, c.loop-rule-test.true) in
    let at : get_or c.args.rules.now i 0 ≡ number_in g (get_or ns i []) = rule_number_at g ns c.args.rules.now i e l in
    let here : chars c.text_name.result.now ≡ get_or ns i [] =
    c.text_name.ensures ∙ (ap₂ (λ xs k. name_in xs k) of at ∙ known_text g (get_or ns i []) (number_within g (get_or ns i []) (number_at g ns i h l))) in
    next_name ns c.loop-rule.found.items c.push.new.self.items c.text_name.result i l c.in_ok-push.ensures.items (c.loop-rule.invariant g of ns e h) here
