-- Rules that are wrapped one after another.
use Rattle.std.proofs.Common.{◌≡◌, ◌<◌, sym, ◌∙◌, ap, ℕ, ◌+◌, List, [], ◌∷◌, ◌++◌, length, drop, get_or, append_assoc, add-one}
use Rattle.std.proofs.Math.Seq.{drop-cons}
use Rattle.base_language.specs.Language.Expression.{Grammar, Rule}
use Rattle.base_ast.specs.Optimized.{optimized_rule_of, optimized_rules_of}
use Rattle.base_ast.specs.declared.optimized.OptimizedRule.{OptimizedRule}
use Rattle.matcher_support.specs.Frames.{IsWrapped}
use Rattle.matcher_support.specs.Wrapped.{wrapped, wrapped_rules}

-- the rules so far, and those to come after these wrappers
abbrev pub goes_on : Grammar → Grammar → Grammar → Grammar × Grammar
goes_on done rs ws = let y = wrapped_rules rs ws in (done ++ y.0, y.1)

pub one_more : (done rs ws : Grammar) (r q : Rule) (more : Grammar) → IsWrapped r ws q more
    → goes_on done (r ∷ rs) ws ≡ goes_on (done ++ q ∷ []) rs more
one_more done rs ws r q more h =
    let x = wrapped r.body ws in
    let y = wrapped_rules rs x.1 in
    let e : goes_on (done ++ q ∷ []) rs more ≡ goes_on (done ++ record r { body = x.0 } ∷ []) rs x.1 =
    ap (λ z. goes_on (done ++ z ∷ []) rs more) h.0 ∙ ap (goes_on (done ++ record r { body = x.0 } ∷ []) rs) h.1 in
    ap (λ z. (z, y.1)) (sym (append_assoc done (record r { body = x.0 } ∷ []) y.0)) ∙ sym e

-- the rules from a place on
pub rules_from : (rs : List OptimizedRule) (k : ℕ) (d : OptimizedRule) → k < length rs
    → optimized_rules_of (drop k rs) ≡ optimized_rule_of (get_or rs k d) ∷ optimized_rules_of (drop (k + 1) rs)
rules_from rs k d h = ap optimized_rules_of (drop-cons rs k d h) ∙ ap (λ n. optimized_rule_of (get_or rs k d) ∷ optimized_rules_of (drop n rs)) (sym (add-one k))
