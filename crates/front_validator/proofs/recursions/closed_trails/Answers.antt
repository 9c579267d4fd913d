use Rattle.std.proofs.Common.{◌≡◌, ◌∙◌, ◌++◌, ◌∷◌, [], ap, sym, subst, append-nil, false, rules, arith}
use Rattle.std.specs.Prelude.{IfSome, IfNone}
use Rattle.std.proofs.lemmas.List.{map-append}
use Rattle.front_spanned.specs.Nodes.{rule_views}
use Rattle.front_validator.specs.Findings.{Reports, reports_none, OfRecursion}
use Rattle.front_validator.specs.Reporting.{finding_of, findings_of}
use Rattle.front_validator.specs.Searching.{NeverComesBack}
use Rattle.front_validator.specs.declared.problems.RuleFinding as code
use Rattle.front_validator.proofs.EmptyLemmas.{empty_second}
use Rattle.front_validator.proofs.RecursionLemmas.{place_more, all_below}
use Rattle.front_validator.proofs.recursions.closed_trails.Goals as goal

pub loop-place-init : goal.loop-place-init
loop-place-init c = record {
  exact = subst (λ z. Reports (OfRecursion (rule_views c.args.rules.now)) [] (findings_of z)) (sym c.new-found.ensures.items) reports_none;
  idle = c.in_ok-walk.ensures;
  none = λ e k h. absurd (omega arith);
}

pub loop-place-preserved-then-not-may_come_back : goal.loop-place-preserved-then-not-may_come_back
loop-place-preserved-then-not-may_come_back c =
    let rs = c.args.rules.now in
    let i = c.loop-place.place in
    let inv = c.loop-place.invariant in
    let old = findings_of c.loop-place.found.items in
    let off : c.may_come_back.result ≡ false = search rules in
    record {
      exact = place_more (OfRecursion (rule_views rs)) i old [] old inv.exact (c.may_come_back.ensures.nothing off) (sym (append-nil old));
      idle = inv.idle;
      none = λ e. all_below (NeverComesBack rs c.args.facts.now.table.roots.items) i (inv.none e) (c.may_come_back.ensures.never off);
    }

pub loop-place-preserved-in-None : goal.loop-place-preserved-in-None
loop-place-preserved-in-None c =
    let rs = c.args.rules.now in
    let i = c.loop-place.place in
    let inv = c.loop-place.invariant in
    let roots = c.args.facts.now.table.roots.items in
    let old = findings_of c.loop-place.found.items in
    let told = c.in_ok-recursion_at.ensures in
    let nothing = subst (λ o. IfNone o (OfRecursion (rule_views rs) i [])) c.in-None.is told.nothing in
    let never = subst (λ o. IfNone o (NeverComesBack rs roots i)) c.in-None.is told.never in
    record {
      exact = place_more (OfRecursion (rule_views rs)) i old [] old inv.exact nothing (sym (append-nil old));
      idle = told.idle;
      none = λ e. all_below (NeverComesBack rs roots) i (inv.none e) never;
    }

pub loop-place-preserved : goal.loop-place-preserved
loop-place-preserved c =
    let rs = c.args.rules.now in
    let i = c.loop-place.place in
    let inv = c.loop-place.invariant in
    let old = findings_of c.loop-place.found.items in
    let told = c.in_ok-recursion_at.ensures in
    let some = subst (λ o. IfSome o (λ (f : code.RuleFinding). OfRecursion (rule_views rs) i (finding_of f ∷ []))) c.in-Some.is told.some in
    let f = c.in-Some.finding in
    let new = findings_of c.push.new.self.items in
    let grown : new ≡ old ++ finding_of f ∷ [] = ap (λ z. findings_of z) c.in_ok-push-in-Some.ensures.items ∙ map-append finding_of c.loop-place.found.items (f ∷ []) in
    record {
      exact = place_more (OfRecursion (rule_views rs)) i old (finding_of f ∷ []) new inv.exact some grown;
      idle = told.idle;
      none = λ e. (let h = empty_second old (finding_of f ∷ []) (sym grown ∙ e) in cc);
    }
