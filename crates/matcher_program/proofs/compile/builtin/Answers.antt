use Rattle.std.proofs.Common.{◌≡◌, None, inl, ap, subst, sym, ◌∙◌, chars}
use Rattle.base_language.specs.Language.Expression.{Ident, rule_of}
use Rattle.matcher_program.specs.Compiled.{Compiles}
use Rattle.matcher_program.proofs.Compiling.{property_compiles}
use Rattle.matcher_program.proofs.Refusing.{no_builtin_of, unknown_property}
use Rattle.matcher_program.proofs.compile.builtin.Goals as goal

pub returns-in-Some-clause-some : goal.returns-in-Some-clause-some
returns-in-Some-clause-some c =
    let e = ap chars (sym c.as_str.ensures.value) ∙ c.in-Some.ensures.named in
    λ g u. subst (λ t. Compiles g c.args.properties.now (Ident t) c.form_of_builtin.result) (sym e) (c.form_of_builtin.ensures g c.args.properties.now (subst (λ t. rule_of g t ≡ None) e u))

pub returns-in_ok-clone-in-Some-find_property-clause-some : goal.returns-in_ok-clone-in-Some-find_property-clause-some
returns-in_ok-clone-in-Some-find_property-clause-some c =
    let h = rw c.as_str-3.ensures.value at c.in-Some-find_property.ensures.some in
    let p = rw c.as_str-2.ensures.value at c.is_property.ensures in
    property_compiles _ _ _ _ (ap chars c.in_ok-clone-in-Some-find_property.ensures.cases) h (sym p ∙ c.if-not-is_property.false)

pub returns-then-not-is_property-clause-none : goal.returns-then-not-is_property-clause-none
returns-then-not-is_property-clause-none c =
    let unnamed = rw c.as_str.ensures.value at c.in_default.ensures.unnamed in
    let p = rw c.as_str-2.ensures.value at c.is_property.ensures in
    inl (no_builtin_of _ unnamed (sym p ∙ c.if-not-is_property.true))

pub returns-in-None-clause-none : goal.returns-in-None-clause-none
returns-in-None-clause-none c =
    let p = rw c.as_str-2.ensures.value at c.is_property.ensures in
    let h = rw c.as_str-3.ensures.value at c.in-None.ensures.none in
    unknown_property _ _ (sym p ∙ c.if-not-is_property.false) h
