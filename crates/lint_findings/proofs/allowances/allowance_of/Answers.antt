use Rattle.std.proofs.Common.{◌≡◌, ◌∙◌, ℕ, Option, ap, sym}
use Rattle.front_spanned.proofs.Places.{span_of-view}
use Rattle.lint_findings.specs.declared.allowances.Allowance.{Allowance}
use Rattle.lint_findings.specs.declared.codes.Code.{Code}
use Rattle.lint_findings.proofs.allowances.allowance_of.Goals as goal

made : (a b : Option Code) (i j k l m n : ℕ) (start : ℕ) → a ≡ b → i ≡ j → k ≡ l → m ≡ n
    → (let x : Allowance = record { code = a; start = start; end = i; first = k; last = m } in x) ≡ record { code = b; start = start; end = j; first = l; last = n }
made a b i j k l m n start e f g h =
    ap (λ c. let x : Allowance = record { code = c; start = start; end = i; first = k; last = m } in x) e
    ∙ ap (λ c. let x : Allowance = record { code = b; start = start; end = c; first = k; last = m } in x) f
    ∙ ap (λ c. let x : Allowance = record { code = b; start = start; end = j; first = c; last = m } in x) g
    ∙ ap (λ c. let x : Allowance = record { code = b; start = start; end = j; first = l; last = c } in x) h

pub returns : goal.returns
returns c =
    made _ _ _ _ _ _ _ _ c.args.comment.start c.in_ok-code_in.ensures (sym c.args.comment.long) c.start.ensures (c.end.ensures ∙ sym (ap (λ s. s.end) (span_of-view c.args.rule.now.node)))
