-- One rule more has its number by name.
use Rattle.std.proofs.Common.{◌≡◌, refl, sym, ◌∙◌, ap, subst, ℕ, suc, ◌+◌, ◌<◌, List, [], ◌∷◌, ◌++◌, Bool, true, false, Option, Some, None, if◌then◌else◌, length, drop, take, get_or, bytes_eq, arith}
use Rattle.std.proofs.Math.ListN.{get_or-append}
use Rattle.std.proofs.Math.Seq.{get_or-append_seam}
use Rattle.std.proofs.lemmas.List.{length-append, length-map, length-take-le, map-append, take_more}
use Rattle.base_language.specs.Language.Text.{Text}
use Rattle.base_language.specs.Rewritings.Equality.{text_eq-Decides}
use Rattle.base_language.specs.Language.Expression.{Grammar, Rule, rule_of, or_else}
use Rattle.base_ast.specs.Optimized.{optimized_rule_of, optimized_rules_of}
use Rattle.base_ast.specs.declared.optimized.OptimizedRule.{OptimizedRule}
use Rattle.matcher_program.specs.Programs.{IsRuleOf, IsSkippedRule}
use Rattle.matcher_program.proofs.Compiling.{last_rule}

-- a rule of another name hides none
rule_of_more : (g : Grammar) (r : Rule) (n : Text) → bytes_eq r.name n ≡ false → rule_of (g ++ (r ∷ [])) n ≡ rule_of g n
rule_of_more [] r n e = rw e refl
rule_of_more (q ∷ g) r n e = ap (λ x. or_else x (if bytes_eq q.name n then Some q else None)) (rule_of_more g r n e)

nothing_behind : (g : Grammar) (r : Rule) → drop (suc (length g)) (g ++ (r ∷ [])) ≡ []
nothing_behind [] r = refl
nothing_behind (q ∷ g) r = nothing_behind g r

module _ (g : Grammar) (r : Rule) (n : Text) where
  within : length g < length (g ++ (r ∷ []))
  within = omega (arith, length-append g (r ∷ []))

  at_end : (d : Rule) → get_or (g ++ (r ∷ [])) (length g) d ≡ r
  at_end d = get_or-append_seam g r [] d

  itself : bytes_eq r.name n ≡ true → IsRuleOf (g ++ (r ∷ [])) n (length g)
  itself h = record {
    within = within;
    meant = λ d. last_rule (g ++ (r ∷ [])) (length g) d n within (rw (nothing_behind g r) refl) (rw (at_end d) h);
    named = λ d. ap (λ q. q.name) (at_end d) ∙ (text_eq-Decides r.name n).0 h;
  }

  another : (old : Option ℕ) → bytes_eq r.name n ≡ false → IsSkippedRule g n old → IsSkippedRule (g ++ (r ∷ [])) n old
  another None e h = rule_of_more g r n e ∙ h
  another (Some i) e h = record {
    within = omega (arith, length-append g (r ∷ []), h.within);
    meant = λ d. rule_of_more g r n e ∙ (h.meant d ∙ ap Some (sym (get_or-append g (r ∷ []) d i h.within)));
    named = λ d. ap (λ q. q.name) (get_or-append g (r ∷ []) d i h.within) ∙ h.named d;
  }

  one_more : (b : Bool) (old new : Option ℕ) → b ≡ bytes_eq r.name n → new ≡ (if b then Some (length g) else old) → IsSkippedRule g n old → IsSkippedRule (g ++ (r ∷ [])) n new
  one_more true old new e f h = subst (IsSkippedRule (g ++ (r ∷ [])) n) (sym f) (itself (sym e))
  one_more false old new e f h = subst (IsSkippedRule (g ++ (r ∷ [])) n) (sym f) (another old (sym e) h)

-- the same of rules of code, of which one more was looked at
pub name_step : (rs : List OptimizedRule) (i : ℕ) (n : Text) (d : OptimizedRule) (b : Bool) (old new : Option ℕ) → i < length rs → b ≡ bytes_eq (optimized_rule_of (get_or rs i d)).name n
    → IsSkippedRule (optimized_rules_of (take i rs)) n old → new ≡ (if b then Some i else old) → IsSkippedRule (optimized_rules_of (take (i + 1) rs)) n new
name_step rs i n d b old new l e h f =
    let k : length (optimized_rules_of (take i rs)) ≡ i = length-map (take i rs) optimized_rule_of ∙ length-take-le i rs (omega (arith, l)) in
    let m : optimized_rules_of (take (i + 1) rs) ≡ optimized_rules_of (take i rs) ++ (optimized_rule_of (get_or rs i d) ∷ []) = ap optimized_rules_of (take_more rs i d l) ∙ map-append optimized_rule_of (take i rs) (get_or rs i d ∷ []) in
    subst (λ g. IsSkippedRule g n new) (sym m) (one_more (optimized_rules_of (take i rs)) (optimized_rule_of (get_or rs i d)) n b old new e (f ∙ ap (λ j. if b then Some j else old) (sym k)) h)
