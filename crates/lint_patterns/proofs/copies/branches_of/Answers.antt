use Rattle.std.proofs.Common.{inl, inr, ap, refl, ◌+◌}
use Rattle.base_ast.specs.Ast.{text_of}
use Rattle.base_language.specs.Language.Expression as bare
use Rattle.front_spanned.specs.Nodes.{view_at, piece_of}
use Rattle.front_spanned.specs.Spanned as spanned
use Rattle.lint_patterns.proofs.copies.branches_of.Goals as goal

pub returns-in-PushLiteral : goal.returns-in-PushLiteral
returns-in-PushLiteral c =
    let span = piece_of c.args.node.now.span in
    (span, bare.PushLiteral (text_of c.in-PushLiteral.field-0), ap (view_at span) c.in-PushLiteral.is)

pub returns-in-NodeTag : goal.returns-in-NodeTag
returns-in-NodeTag c =
    let span = piece_of c.args.node.now.span in
    rw c.deref.ensures (span, spanned.Tag (text_of c.in-NodeTag.field-1), ap (view_at span) c.in-NodeTag.is, refl)

pub returns-in-RepMin : goal.returns-in-RepMin
returns-in-RepMin c =
    let span = piece_of c.args.node.now.span in
    rw c.deref-in-RepMin.ensures (span, spanned.RepMin c.in-RepMin.least, ap (view_at span) c.in-RepMin.is, ap (λ n. n + 1) c.from.ensures)

pub returns-in-RepMinMax : goal.returns-in-RepMinMax
returns-in-RepMinMax c =
    let span = piece_of c.args.node.now.span in
    rw c.deref-in-RepMinMax.ensures (span, spanned.RepMinMax c.in-RepMinMax.field-1 c.in-RepMinMax.most, ap (view_at span) c.in-RepMinMax.is, c.from-in-RepMinMax.ensures)

pub returns-in-Range : goal.returns-in-Range
returns-in-Range c =
    let span = piece_of c.args.node.now.span in
    elim c.in-Range.is [
      | inl h ↦ (span, bare.Range (text_of h.0) (text_of h.1), ap (view_at span) h.2)
      | inr h ↦ (span, bare.PeekSlice h.0 h.1, ap (view_at span) h.2)
    ]

pub returns-in-Str : goal.returns-in-Str
returns-in-Str c =
    let span = piece_of c.args.node.now.span in
    elim c.in-Str.is [
      | inl h ↦ (span, bare.Str (text_of h.0), ap (view_at span) h.1)
      | inr k ↦ elim k [
        | inl h ↦ (span, bare.Insens (text_of h.0), ap (view_at span) h.1)
        | inr h ↦ (span, bare.Ident (text_of h.0), ap (view_at span) h.1)
      ]
    ]

pub returns-in-Seq : goal.returns-in-Seq
returns-in-Seq c =
    let span = piece_of c.args.node.now.span in
    rw (c.deref-in-Seq.ensures, c.deref-in-Seq-2.ensures) (elim c.in-Seq.is [
      | inl h ↦ (span, spanned.Seq, ap (view_at span) h)
      | inr h ↦ (span, spanned.Choice, ap (view_at span) h)
    ])

pub returns-in-RepExact : goal.returns-in-RepExact
returns-in-RepExact c =
    let span = piece_of c.args.node.now.span in
    rw c.deref-in-RepExact.ensures (elim c.in-RepExact.is [
      | inl h ↦ (span, spanned.RepExact c.in-RepExact.most, ap (view_at span) h, c.from-in-RepExact.ensures)
      | inr h ↦ (span, spanned.RepMax c.in-RepExact.most, ap (view_at span) h, c.from-in-RepExact.ensures)
    ])

pub returns-in-Rep : goal.returns-in-Rep
returns-in-Rep c =
    let span = piece_of c.args.node.now.span in
    rw c.deref-in-Rep.ensures (elim c.in-Rep.is [
      | inl h ↦ (span, spanned.Rep, ap (view_at span) h, refl)
      | inr k ↦ elim k [
        | inl h ↦ (span, spanned.RepOnce, ap (view_at span) h, refl)
        | inr h ↦ (span, spanned.Push, ap (view_at span) h, refl)
      ]
    ])

pub returns-in-PosPred : goal.returns-in-PosPred
returns-in-PosPred c =
    let span = piece_of c.args.node.now.span in
    rw c.deref-in-PosPred.ensures (elim c.in-PosPred.is [
      | inl h ↦ (span, spanned.PosPred, ap (view_at span) h, refl)
      | inr k ↦ elim k [
        | inl h ↦ (span, spanned.NegPred, ap (view_at span) h, refl)
        | inr h ↦ (span, spanned.Opt, ap (view_at span) h, refl)
      ]
    ])
