use Rattle.std.proofs.Common.{arith, sym, ◌∙◌, ap, ◌≡◌, [], bytes_eq, true, false, chars, drop, get_or, ◌<◌, ◌-◌, length, None, subst}
use Rattle.std.proofs.lemmas.List.{get_or-map, length-map}
use Rattle.base_language.specs.Language.Expression.{last_place}
use Rattle.matcher_program.specs.ExpectedNames.{name_texts}
use Rattle.matcher_support.proofs.CompiledNames.{none_at_end, not_that_name, that_name}
use Rattle.matcher_support.proofs.compiled.last_number.Goals as goal

pub loop-below-init : goal.loop-below-init
loop-below-init c = record {
  within = omega arith;
  none = λ g e. none_at_end g (name_texts c.args.names.now) _ (chars c.args.name.now) e (sym (length-map c.args.names.now (λ n. chars n.now)));
}

pub returns-then-same : goal.returns-then-same
returns-then-same c = λ g e.
    let next = c.loop-below.below - 1 in
    let l : next < length c.args.names.now = omega (arith, c.loop-below.invariant.within, c.loop-below-test.true) in
    let m : next < length (name_texts c.args.names.now) = omega (arith, l, length-map c.args.names.now (λ n. chars n.now)) in
    let h : bytes_eq (get_or (name_texts c.args.names.now) next []) (chars c.args.name.now) ≡ true =
    ap (λ z. bytes_eq z (chars c.args.name.now)) (get_or-map (λ n. chars n.now) c.args.names.now next _ [] l) ∙ (sym c.same.ensures ∙ c.if-same.true) in
    sym (that_name g (name_texts c.args.names.now) e c.loop-below.below next (chars c.args.name.now) (omega (arith, c.loop-below-test.true)) m (c.loop-below.invariant.none g e) h)

pub loop-below-preserved : goal.loop-below-preserved
loop-below-preserved c =
    let next = c.loop-below.below - 1 in
    let l : next < length c.args.names.now = omega (arith, c.loop-below.invariant.within, c.loop-below-test.true) in
    let m : next < length (name_texts c.args.names.now) = omega (arith, l, length-map c.args.names.now (λ n. chars n.now)) in
    let h : bytes_eq (get_or (name_texts c.args.names.now) next []) (chars c.args.name.now) ≡ false =
    ap (λ z. bytes_eq z (chars c.args.name.now)) (get_or-map (λ n. chars n.now) c.args.names.now next _ [] l) ∙ (sym c.same.ensures ∙ c.if-same.false) in
    record {
      within = omega (arith, c.loop-below.invariant.within);
      none = λ g e. not_that_name g (name_texts c.args.names.now) e c.loop-below.below next (chars c.args.name.now) (omega (arith, c.loop-below-test.true)) m (c.loop-below.invariant.none g e) h;
    }

pub returns : goal.returns
returns c = λ g e.
    let z : c.loop-below.below ≡ 0 = omega (arith, c.loop-below-test.false) in
    sym (subst (λ k. last_place (drop k g) (chars c.args.name.now) ≡ None) z (c.loop-below.invariant.none g e))
