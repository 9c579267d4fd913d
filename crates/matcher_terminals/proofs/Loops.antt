-- Names and rules from an index on.
use Rattle.std.proofs.Common.{◌≡◌, ◌<◌, sym, ◌∙◌, ap, ℕ, ◌+◌, List, ◌∷◌, drop, get_or, length, add-one}
use Rattle.std.proofs.Math.Seq.{drop-cons}
use Rattle.std.specs.Borrow.{Bor}
use Rattle.std.specs.Str.{chars}
use Rattle.base_ast.specs.Optimized.{optimized_rule_of, optimized_rules_of}
use Rattle.base_ast.specs.declared.optimized.OptimizedRule.{OptimizedRule}
use Rattle.matcher_program.specs.ExpectedNames.{name_texts}

pub names_from : (ns : List (Bor (List ℕ))) (k : ℕ) (d : Bor (List ℕ)) → k < length ns
    → name_texts (drop k ns) ≡ chars (get_or ns k d).now ∷ name_texts (drop (k + 1) ns)
names_from ns k d h = ap name_texts (drop-cons ns k d h) ∙ ap (λ n. chars (get_or ns k d).now ∷ name_texts (drop n ns)) (sym (add-one k))

pub rules_from : (rs : List OptimizedRule) (k : ℕ) (d : OptimizedRule) → k < length rs
    → optimized_rules_of (drop k rs) ≡ optimized_rule_of (get_or rs k d) ∷ optimized_rules_of (drop (k + 1) rs)
rules_from rs k d h = ap optimized_rules_of (drop-cons rs k d h) ∙ ap (λ n. optimized_rule_of (get_or rs k d) ∷ optimized_rules_of (drop n rs)) (sym (add-one k))
