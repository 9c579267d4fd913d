use Rattle.std.proofs.Common.{◌∙◌, sym}
use Rattle.base_ast.specs.Optimized.{optimized_rules_of}
use Rattle.matcher_support.specs.Compiled.{IsCompiled}
use Rattle.pest_run.proofs.OptimizedMatch.{preorder_shows_match}
use Rattle.pest_run.proofs.forms.has_match.Goals as goal

pub returns-in-Ok-Some : goal.returns-in-Ok-Some
returns-in-Ok-Some c = λ e.
    let g = optimized_rules_of c.args.rules.now in
    let read = rw c.in-Ok-Some.field-0-is at c.in-Ok-Some.ensures in
    let is : IsCompiled c.args.rules.now c.in-Ok.block.items = record { whole = c.in-Ok.ensures.whole; code = c.in-Ok.ensures.compiled; has = c.in-Ok.ensures.rules } in
    preorder_shows_match g c.args.rule.now c.args.text.now c.match_text.result (c.match_text.ensures.matched g (read c.args.rules.now (rw c.deref.ensures.value is))) (sym c.is_ok.ensures.value ∙ e)
