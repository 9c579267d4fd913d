use Rattle.std.proofs.Common.{arith, refl, sym, ◌∙◌, ap, ◌≡◌, bytes_eq, true, false, chars, ◌<◌, ◌-◌, length}
use Rattle.base_ast.specs.Ast.{text_of}
use Rattle.matcher_compiler.proofs.Naming.{none_at_end, not_that_name, that_name}
use Rattle.matcher_compiler.proofs.names.last_index.Goals as goal

pub loop-below-init : goal.loop-below-init
loop-below-init c = record {
  within = omega arith;
  none = none_at_end c.args.program_rules.now _ _ refl;
}

pub returns-then-same : goal.returns-then-same
returns-then-same c =
    let i = c.loop-below.invariant.within in
    let l : c.loop-below.below - 1 < length c.args.program_rules.now = omega (arith, i, c.loop-below-test.true) in
    let h : bytes_eq (text_of c.index-program_rules-below.result.name) (chars c.args.name.now) ≡ true = ap (λ r. bytes_eq (text_of r.name) (chars c.args.name.now)) c.index-program_rules-below.is ∙ (ap (λ b. bytes_eq (chars b) (chars c.args.name.now)) (sym c.as_str.ensures.value) ∙ (sym c.same.ensures ∙ c.if-same.true)) in
    sym (that_name c.args.program_rules.now c.loop-below.below (c.loop-below.below - 1) c.index-program_rules-below.result _ (omega (arith, c.loop-below-test.true)) l c.index-program_rules-below.is c.loop-below.invariant.none h)

pub loop-below-preserved : goal.loop-below-preserved
loop-below-preserved c =
    let i = c.loop-below.invariant.within in
    let l : c.loop-below.below - 1 < length c.args.program_rules.now = omega (arith, i, c.loop-below-test.true) in
    let h : bytes_eq (text_of c.index-program_rules-below.result.name) (chars c.args.name.now) ≡ false = ap (λ r. bytes_eq (text_of r.name) (chars c.args.name.now)) c.index-program_rules-below.is ∙ (ap (λ b. bytes_eq (chars b) (chars c.args.name.now)) (sym c.as_str.ensures.value) ∙ (sym c.same.ensures ∙ c.if-same.false)) in
    record {
      within = omega (arith, i);
      none = not_that_name c.args.program_rules.now c.loop-below.below (c.loop-below.below - 1) c.index-program_rules-below.result _ (omega (arith, c.loop-below-test.true)) l c.index-program_rules-below.is c.loop-below.invariant.none h;
    }
