use Rattle.std.proofs.Common.{◌≡◌, inl, inr, ap, false, refl}
use Rattle.base_ast.specs.Ast.{text_of}
use Rattle.lint_patterns.specs.declared.alternatives.Placed.{Placed}
use Rattle.lint_patterns.proofs.AlternativeStacks.{one_fewer, one_spans}
use Rattle.front_spanned.specs.Nodes.{piece_of, view, view_at}
use Rattle.front_spanned.specs.Spanned as spanned
use Rattle.front_spanned.specs.Spanned.{One}
use Rattle.lint_patterns.proofs.alternatives.push_inner.Goals as goal

pub returns-in_ok-push-in-PosPred-clause-spans : goal.returns-in_ok-push-in-PosPred-clause-spans
returns-in_ok-push-in-PosPred-clause-spans c =
    let place = piece_of c.args.node.now.span in
    let x = view c.in-PosPred.inner.value in
    let pushed : Placed = record { node = c.deref-in-PosPred.result; is_alternative = false } in
    let one : (f : spanned.Unary) × (view c.args.node.now ≡ One place f x) = elim c.in-PosPred.is [
      | inl h ↦ (spanned.PosPred, ap (view_at place) h)
      | inr a ↦ elim a [
        | inl h ↦ (spanned.NegPred, ap (view_at place) h)
        | inr a ↦ elim a [
          | inl h ↦ (spanned.Opt, ap (view_at place) h)
          | inr a ↦ elim a [
            | inl h ↦ (spanned.Rep, ap (view_at place) h)
            | inr a ↦ elim a [
              | inl h ↦ (spanned.RepOnce, ap (view_at place) h)
              | inr a ↦ elim a [
                | inl h ↦ (spanned.RepExact h.0, ap (view_at place) h.1)
                | inr a ↦ elim a [
                  | inl h ↦ (spanned.RepMin h.0, ap (view_at place) h.1)
                  | inr a ↦ elim a [
                    | inl h ↦ (spanned.RepMax h.0, ap (view_at place) h.1)
                    | inr a ↦ elim a [
                      | inl h ↦ (spanned.RepMinMax h.0 h.1, ap (view_at place) h.2)
                      | inr a ↦ elim a [
                        | inl h ↦ (spanned.Push, ap (view_at place) h)
                        | inr h ↦ (spanned.Tag (text_of h.0), ap (view_at place) h.1)
                      ]
                    ]
                  ]
                ]
              ]
            ]
          ]
        ]
      ]
    ] in
    one_spans (view c.args.node.now) x place one.0 c.args.stack.now.items c.push.new.self.items pushed one.1 (ap view c.deref-in-PosPred.ensures) refl c.in_ok-push-in-PosPred.ensures.items

pub returns-in_ok-push-in-PosPred-clause-less : goal.returns-in_ok-push-in-PosPred-clause-less
returns-in_ok-push-in-PosPred-clause-less c =
    let place = piece_of c.args.node.now.span in
    let x = view c.in-PosPred.inner.value in
    let pushed : Placed = record { node = c.deref-in-PosPred.result; is_alternative = false } in
    let one : (f : spanned.Unary) × (view c.args.node.now ≡ One place f x) = elim c.in-PosPred.is [
      | inl h ↦ (spanned.PosPred, ap (view_at place) h)
      | inr a ↦ elim a [
        | inl h ↦ (spanned.NegPred, ap (view_at place) h)
        | inr a ↦ elim a [
          | inl h ↦ (spanned.Opt, ap (view_at place) h)
          | inr a ↦ elim a [
            | inl h ↦ (spanned.Rep, ap (view_at place) h)
            | inr a ↦ elim a [
              | inl h ↦ (spanned.RepOnce, ap (view_at place) h)
              | inr a ↦ elim a [
                | inl h ↦ (spanned.RepExact h.0, ap (view_at place) h.1)
                | inr a ↦ elim a [
                  | inl h ↦ (spanned.RepMin h.0, ap (view_at place) h.1)
                  | inr a ↦ elim a [
                    | inl h ↦ (spanned.RepMax h.0, ap (view_at place) h.1)
                    | inr a ↦ elim a [
                      | inl h ↦ (spanned.RepMinMax h.0 h.1, ap (view_at place) h.2)
                      | inr a ↦ elim a [
                        | inl h ↦ (spanned.Push, ap (view_at place) h)
                        | inr h ↦ (spanned.Tag (text_of h.0), ap (view_at place) h.1)
                      ]
                    ]
                  ]
                ]
              ]
            ]
          ]
        ]
      ]
    ] in
    one_fewer (view c.args.node.now) x place one.0 c.args.stack.now.items c.push.new.self.items pushed one.1 (ap view c.deref-in-PosPred.ensures) c.in_ok-push-in-PosPred.ensures.items
