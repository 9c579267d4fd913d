use Rattle.std.proofs.Common.{◌≡◌, ◌∙◌, ◌<◌, All, get_or, length, string_bytes, subst}
use Rattle.server_features.specs.Earlier.{Stays}
use Rattle.server_features.proofs.Staying.{all_more}
use Rattle.server_features.proofs.earlier.staying_warnings.Goals as goal

pub loop-diagnostic-preserved : goal.loop-diagnostic-preserved
loop-diagnostic-preserved c =
    let before = string_bytes c.args.earlier.now.text in
    let after = c.args.text.now in
    let olds = c.args.earlier.now.diagnostics.items in
    let same = c.deref-diagnostic-items.ensures.value in
    let i = c.loop-diagnostic.diagnostic-index in
    let old = c.diagnostic-item.result in
    let added = c.in_ok-push_staying.ensures in
    let of_text = subst (λ t. All (Stays t c.in_ok-moves.moves.text.now old) added.0) (c.in_ok-moves.ensures.before ∙ c.as_str.ensures.value) added.2 in
    let stay = subst (λ t. All (Stays before t old) added.0) c.in_ok-moves.ensures.after of_text in
    all_more (Stays before after) olds i old _ added.0 _ (subst (λ ds. i < length ds) same c.loop-diagnostic-test.true)
    (subst (λ ds. old ≡ get_or ds i old) same c.diagnostic-item.is) added.1 c.loop-diagnostic.invariant stay
