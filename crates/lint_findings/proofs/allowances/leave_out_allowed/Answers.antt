use Rattle.std.proofs.Common.{◌≡◌, ◌∙◌, ◌++◌, ap, drop, length, min, sym, take}
use Rattle.front_spanned.specs.Nodes.{rule_views}
use Rattle.lint_findings.proofs.Allowed.{drop-least, left_out, take-least}
use Rattle.lint_findings.proofs.allowances.leave_out_allowed.Goals as goal

pub returns : goal.returns
returns c = λ parts.
    let found = c.in_ok-allowances.allowances.items in
    let count : c.min.result ≡ min (length found) 256 = c.min.ensures ∙ ap (λ n. min n 256) (c.len.ensures ∙ sym c.deref.ensures.len ∙ ap length c.deref.ensures.value) in
    let first : c.split_at.result.0.now ≡ take 256 found = c.split_at.ensures.front ∙ ap (λ n. take n c.deref.result.now) count ∙ ap (take (min (length found) 256)) c.deref.ensures.value ∙ take-least found 256 in
    let others : c.split_at.result.1.now ≡ drop 256 found = c.split_at.ensures.back ∙ ap (λ n. drop n c.deref.result.now) count ∙ ap (drop (min (length found) 256)) c.deref.ensures.value ∙ drop-least found 256 in
    left_out c.args.text.now (rule_views c.args.rules.now) c.args.diagnostics.items _ found c.split_at.result.0.now c.split_at.result.1.now c.in_ok-useless.useless.items c.retain_others.new.diagnostics.items c.in_ok-warnings.warnings.items c.in_ok-warn_of.field-0.items
    (c.in_ok-allowances.ensures parts) first others (rw c.deref-2.ensures.value at c.in_ok-useless.ensures) (rw c.deref-3.ensures.value at c.in_ok-warnings.ensures) c.in_ok-warn_of.ensures c.retain_others.ensures
    (c.in_ok-append-2.ensures.items ∙ ap (λ ws. c.retain_others.new.diagnostics.items ++ ws) c.in_ok-append.ensures.items)
