use Rattle.std.proofs.Common.{◌∙◌, ◌==◌, ◌++◌, append-nil, ap, length, map, sym}
use Rattle.std.proofs.lemmas.List.{map-append}
use Rattle.front_spanned.specs.Nodes.{view}
use Rattle.lint_warnings.specs.Choices.{unreachable_at}
use Rattle.lint_warnings.specs.Groups.{pieces_of}
use Rattle.lint_warnings.proofs.Choosing.{none_grouped, some_grouped}
use Rattle.lint_warnings.proofs.choices.add_of_choice.Goals as goal

pub returns-then-is_empty : goal.returns-then-is_empty
returns-then-is_empty c =
    let old = map pieces_of c.args.found.now.items in
    let none = none_grouped c.in_ok-spans.spans.items (unreachable_at (view c.args.whole.now)) c.in_ok-spans.ensures (ap (λ l. length l == 0) (sym c.as_slice.ensures.value) ∙ (sym c.is_empty.ensures ∙ c.if-is_empty.true)) in
    sym (ap (λ l. old ++ l) none ∙ append-nil old)

pub returns : goal.returns
returns c =
    let old = map pieces_of c.args.found.now.items in
    let some = some_grouped c.in_ok-spans.spans.items (unreachable_at (view c.args.whole.now)) c.in_ok-spans.ensures (ap (λ l. length l == 0) (sym c.as_slice.ensures.value) ∙ (sym c.is_empty.ensures ∙ c.if-is_empty.false)) in
    ap (map pieces_of) c.in_ok-push.ensures.items
    ∙ (map-append pieces_of c.args.found.now.items _ ∙ ap (λ l. old ++ l) (sym some))
