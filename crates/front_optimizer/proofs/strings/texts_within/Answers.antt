use Rattle.std.proofs.Common.{◌≡◌, ◌∙◌, ◌-◌, refl, ap, [], ◌∷◌, arith}
use Rattle.std.proofs.lemmas.List.{append-nil, map-append}
use Rattle.base_language.specs.Language.Expression as e
use Rattle.base_ast.specs.Ast.{expression_of, text_of}
use Rattle.front_optimizer.proofs.NamedStrings.{found, missing}
use Rattle.front_optimizer.proofs.Telling.{begun, finished, a_text, two_parts, a_body, is_positive, is_defined, have_last, less_by_text, less_by_choice, less_by_name, body_at, no_body_at, other_has_none}
use Rattle.front_optimizer.proofs.strings.texts_within.Goals.{in_default-get-via-in-Some-get+else-names-gt0, in_default-get-via-in_default-get}
use Rattle.front_optimizer.proofs.strings.texts_within.Goals as goal

pub parts-init : goal.parts-init
parts-init c = λ g h s. rw (c.new-texts.ensures.items, c.in_ok-push.ensures.items, c.new-parts.ensures.items) (begun g (record { expr = c.args.expr; names = c.args.names }) s)

pub parts-smaller-in_ok-push-in-Str : goal.parts-smaller-in_ok-push-in-Str
parts-smaller-in_ok-push-in-Str c = rw c.in-Some.ensures.items (less_by_text c.args.bodies.now c.pop.new.self.items c.in-Some.field-0)

pub parts-preserved-in_ok-push-in-Str : goal.parts-preserved-in_ok-push-in-Str
parts-preserved-in_ok-push-in-Str c =
    λ g h s.
    let before = rw c.in-Some.ensures.items at c.parts.invariant g h s in
    let same : expression_of c.in-Some.field-0.expr.now ≡ e.Str (text_of c.in_ok-clone-in-Str.field-0) = rw (c.in-Str.is, c.in_ok-clone-in-Str.ensures.cases) refl in
    rw (c.in_ok-push-in-Str.ensures.items, map-append text_of c.parts.texts.items (c.in_ok-clone-in-Str.field-0 ∷ []))
    (a_text g c.pop.new.self.items c.in-Some.field-0 (text_of c.in_ok-clone-in-Str.field-0) before same)

pub parts-smaller-in_ok-push-in-Choice-2 : goal.parts-smaller-in_ok-push-in-Choice-2
parts-smaller-in_ok-push-in-Choice-2 c =
    rw (c.in-Some.ensures.items, c.in_ok-push-in-Choice-2.ensures.items, c.in_ok-push-in-Choice.ensures.items)
    (less_by_choice c.args.bodies.now c.pop.new.self.items c.in-Some.field-0 (record { expr = c.deref-in-Choice.result; names = c.in-Some.field-0.names }) (record { expr = c.deref.result; names = c.in-Some.field-0.names })
    c.in-Choice.first c.in-Choice.others refl refl c.in-Choice.is c.deref-in-Choice.ensures c.deref.ensures)

pub parts-preserved-in_ok-push-in-Choice-2 : goal.parts-preserved-in_ok-push-in-Choice-2
parts-preserved-in_ok-push-in-Choice-2 c =
    λ g h s.
    let before = rw c.in-Some.ensures.items at c.parts.invariant g h s in
    let same : expression_of c.in-Some.field-0.expr.now ≡ e.Choice (expression_of c.deref-in-Choice.result.now) (expression_of c.deref.result.now) = rw (c.in-Choice.is, c.deref.ensures, c.deref-in-Choice.ensures) refl in
    rw (c.in_ok-push-in-Choice-2.ensures.items, c.in_ok-push-in-Choice.ensures.items)
    (two_parts g c.pop.new.self.items c.in-Some.field-0 (record { expr = c.deref-in-Choice.result; names = c.in-Some.field-0.names }) (record { expr = c.deref.result; names = c.in-Some.field-0.names }) refl refl same before)

pub parts-smaller : goal.parts-smaller
parts-smaller c =
    rw (c.in-Some.ensures.items, c.in_ok-push-in-Some-get.ensures.items)
    (less_by_name c.args.bodies.now c.pop.new.self.items c.in-Some.field-0 (record { expr = c.in-Some-get.body; names = c.in-Some.field-0.names - 1 }) c.in-Ident.name (omega (arith, c.if-names-gt0.true, c.in-Some.names-is)) refl c.in-Ident.is
    (body_at c.args.bodies.now c.in-Ident.name _ c.in-Some-get.body.now c.as_str.ensures.value c.in-Some-get.ensures.value))

pub parts-preserved : goal.parts-preserved
parts-preserved c =
    λ g h s.
    let before = rw c.in-Some.ensures.items at c.parts.invariant g h s in
    let d = found c.args.bodies.now g h c.in-Ident.name c.in-Some-get.body.now (body_at c.args.bodies.now c.in-Ident.name _ c.in-Some-get.body.now c.as_str.ensures.value c.in-Some-get.ensures.value) in
    rw c.in_ok-push-in-Some-get.ensures.items
    (a_body g c.pop.new.self.items c.in-Some.field-0 (record { expr = c.in-Some-get.body; names = c.in-Some.field-0.names - 1 }) (text_of c.in-Ident.name) d.rule d.defined d.body refl (ap expression_of c.in-Ident.is) before)

pub returns-in_default-get : goal.returns-in_default-get
returns-in_default-get c =
    λ g h s.
    let before = rw c.in-Some.ensures.items at c.parts.invariant g h s in
    elim c.in_default-get.branch as (λ x. ⊥) [
      | in_default-get-via-in-Some-get+else-names-gt0 w ↦ (
          let positive = is_positive g c.pop.new.self.items c.in-Some.field-0 (text_of c.in-Ident.name) (ap expression_of c.in-Ident.is) before in
          absurd (omega (arith, positive, w.if-names-gt0.false, c.in-Some.names-is)))
      | in_default-get-via-in_default-get w ↦ (
          is_defined g c.pop.new.self.items c.in-Some.field-0 (text_of c.in-Ident.name) (ap expression_of c.in-Ident.is) before
          (missing c.args.bodies.now g h c.in-Ident.name (no_body_at c.args.bodies.now c.in-Ident.name _ c.as_str.ensures.value w.in_default-get.ensures.value)))
    ]

pub returns-in_default-expr : goal.returns-in_default-expr
returns-in_default-expr c =
    λ g h s.
    let before = rw c.in-Some.ensures.items at c.parts.invariant g h s in
    other_has_none g _ c.in-Some.field-0.expr.now c.in_default-expr.not-Str c.in_default-expr.not-Ident c.in_default-expr.not-Choice (have_last g c.pop.new.self.items c.in-Some.field-0 before.have)

pub returns : goal.returns
returns c =
    λ g h s.
    let none_left : c.pop.new.self.items ≡ [] = c.in_default.ensures.rest ∙ rw c.in_default.ensures.cases.0 refl in
    let empty : c.parts.parts.items ≡ [] = c.in_default.ensures.items ∙ (append-nil c.pop.new.self.items ∙ none_left) in
    finished g (rw empty at c.parts.invariant g h s)
