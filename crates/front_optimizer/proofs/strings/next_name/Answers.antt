use Rattle.std.proofs.Common.{◌≡◌, Some, None, true, false, string_bytes}
use Rattle.base_language.specs.Rewritings.Rewriting.{literal, name}
use Rattle.base_ast.specs.Ast.{expression_of}
use Rattle.front_optimizer.specs.Bodies.{the_name, met_at, HasStrings}
use Rattle.front_optimizer.proofs.Following.{Follows, along, literal_has, finds, split_has, split_needs_first, split_fails_first, split_fails, met_so, not_met_so}
use Rattle.front_optimizer.proofs.strings.next_name.Goals.{in-Str, in-Ident+in-Some-true}
use Rattle.front_optimizer.proofs.strings.next_name.Goals as goal

pub returns-in-Some-false : goal.returns-in-Some-false
returns-in-Some-false c =
    let splits = rw c.in-Ident.is at c.split.ensures in
    let at : met_at c.args.met.now (string_bytes c.in-Ident.name) ≡ Some false = met_so c.args.met.now _ _ c.in-Some-false.field-0 false c.as_str.ensures.value c.in-Some-false.ensures.value c.in-Some-false.field-0-test in
    λ g f. c.along.invariant.fails g (split_fails_first g _ splits (f (string_bytes c.in-Ident.name) at (c.along.invariant.needed _ (split_needs_first _ splits the_name))))

pub returns-in-None : goal.returns-in-None
returns-in-None c =
    let splits = rw c.in-Ident.is at c.split.ensures in
    let at : met_at c.args.met.now (string_bytes c.in-Ident.name) ≡ None = not_met_so c.args.met.now _ _ c.as_str.ensures.value c.in-None.ensures.value in
    rw c.as_str-in-None.ensures.value (finds c.args.met.now c.in-Ident.name _ c.along.invariant splits at)

pub returns-in_default : goal.returns-in_default
returns-in_default c = λ g f. c.along.invariant.fails g (split_fails g c.split.result.0.now _ c.split.ensures c.in_default.not-Str c.in_default.not-Ident)

pub along-preserved : goal.along-preserved
along-preserved c =
    elim c.match-first.branch as (λ x. Follows c.args.met.now (expression_of c.args.expr.now) (expression_of c.in-Some.others.now)) [
      | in-Str w ↦ (
          let splits = rw (c.in-Some.is, w.in-Str.is) at c.split.ensures in
          along c.args.met.now c.in-Some.others c.along.invariant splits literal (λ g k u. literal_has c.args.met.now g k _))
      | in-Ident+in-Some-true w ↦ (
          let splits = rw (c.in-Some.is, w.in-Ident.is) at c.split.ensures in
          let at : met_at c.args.met.now (string_bytes w.in-Ident.name) ≡ Some true = met_so c.args.met.now _ _ w.in-Some-true.field-0 true w.as_str.ensures.value w.in-Some-true.ensures.value w.in-Some-true.field-0-test in
          along c.args.met.now c.in-Some.others c.along.invariant splits name (λ g k u. u (string_bytes w.in-Ident.name) at))
    ]

pub returns-in-None-behind : goal.returns-in-None-behind
returns-in-None-behind c =
    λ g k u. elim c.match-first.branch as (λ x. HasStrings g k (expression_of c.args.expr.now)) [
      | in-Str w ↦ (
          let splits = rw (c.in-None-behind.is, w.in-Str.is) at c.split.ensures in
          c.along.invariant.gives g k u (split_has g k None splits literal (literal_has c.args.met.now g k _) tt))
      | in-Ident+in-Some-true w ↦ (
          let splits = rw (c.in-None-behind.is, w.in-Ident.is) at c.split.ensures in
          let at : met_at c.args.met.now (string_bytes w.in-Ident.name) ≡ Some true = met_so c.args.met.now _ _ w.in-Some-true.field-0 true w.as_str.ensures.value w.in-Some-true.ensures.value w.in-Some-true.field-0-test in
          c.along.invariant.gives g k u (split_has g k None splits name (u (string_bytes w.in-Ident.name) at) tt))
    ]
