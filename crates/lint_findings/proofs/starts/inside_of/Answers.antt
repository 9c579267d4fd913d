use Rattle.std.proofs.Common.{◌≡◌, ◌∙◌, ◌+◌, ◌==◌, List, None, Some, ℕ, ap, drop, false, length, lit<, sym, true, arith}
use Rattle.std.specs.List.{before_first, position_or_len}
use Rattle.std.proofs.lemmas.List.{take_all}
use Rattle.std.proofs.lemmas.Str.Pattern.{split_once_first, starts_text}
use Rattle.lint_findings.specs.Fragments.{Fragment}
use Rattle.lint_findings.specs.Starts.{start_prefix}
use Rattle.lint_findings.proofs.starts.inside_of.Goals as goal
use Rattle.lint_findings.proofs.starts.inside_of.Goals.{in-Some-split_once, in-None}

pub unreachable-requires : goal.unreachable-requires
unreachable-requires c =
    let not : false ≡ true = starts_text false start_prefix c.args.comment.text.now c.in_default.ensures.cases ∙ c.requires in
    cc

pub returns : goal.returns
returns c =
    let cases = c.in-Some.ensures.cases in
    let text = c.args.comment.text.now in
    let rest : c.in-Some.rest.now ≡ drop (length start_prefix) text = cases.2 ∙ ap (λ n. drop n text) cases.1.0 in
    let same : before_first (λ b. b == 41) c.in-Some.rest.now ≡ before_first (λ b. b == 41) (drop (length start_prefix) text) = ap (before_first (λ b. b == 41)) rest in
    let at : List ℕ → Fragment = λ t. record { start = c.args.comment.start + 21; text = t } in
    ap at
    (elim c.match-split_once.branch [
      | in-Some-split_once w ↦
          ap (λ t. t.now) w.text-is ∙ (split_once_first 41 c.in-Some.rest.now (Some (w.in-Some-split_once.names, w.in-Some-split_once.field-0-1)) w.in-Some-split_once.ensures.cases (lit< tt)).1 ∙ same
      | in-None w ↦
          ap (λ t. t.now) w.text-is ∙ (let none : position_or_len (λ b. b == 41) c.in-Some.rest.now ≡ length c.in-Some.rest.now = split_once_first 41 c.in-Some.rest.now None w.in-None.ensures.cases (lit< tt) in
          sym (take_all (position_or_len (λ b. b == 41) c.in-Some.rest.now) c.in-Some.rest.now (omega (arith, none)))) ∙ same
    ])
